use Rattle.std.proofs.Common.{arith}
use Rattle.line_ledger.proofs.cursor.Cursors.of.Goals as goal

pub returns-clause-letter : goal.returns-clause-letter
returns-clause-letter c =
    (omega (arith, c.row_index.ensures.letter, c.row_index.ensures.within), omega (arith, c.row_index.ensures.letter, c.row_index.ensures.within))
