use Rattle.tape_core.proofs.EndFolding.{table-first}
use Rattle.tape_core.proofs.end_tape.EndTape.figures.Goals as goal

pub returns-clause-figures : goal.returns-clause-figures
returns-clause-figures c = λ t keeps listing.
    c.count_all.ensures.figures t keeps listing (table-first t c.in_ok-table.table.items (c.in_ok-table.ensures.figures t.matrix))
