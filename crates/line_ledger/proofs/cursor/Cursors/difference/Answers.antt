use Rattle.line_ledger.specs.Ends.{told_by, told_of}
use Rattle.line_ledger.proofs.CursorRows.{of_participant}
use Rattle.line_ledger.proofs.cursor.Cursors.difference.Goals as goal

pub returns : goal.returns
returns c = λ seats entries stood. c.difference.ensures (told_by c.args.who seats) (told_of c.args.who entries)
    (of_participant c.args.self.now.row seats entries c.args.who c.of.result stood c.of.ensures.letter c.of.ensures.cursor)
