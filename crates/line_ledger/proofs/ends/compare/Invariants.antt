use Rattle.std.proofs.Common.{take}
use Rattle.line_ledger.specs.Cursors.{AllStandAt}
use Rattle.line_ledger.proofs.ends.compare.Given as goal

-- the cursors have passed the entries so far
abbrev pub invariant-loop-entry : goal.invariant-loop-entry
invariant-loop-entry g l = AllStandAt l.cursors.row l.seats (take l.entry-index l.entries)
