use Rattle.std.proofs.Common.{◌≡◌, ◌≤◌, length}
use Rattle.std.specs.Vec.{vec_capacity}
use Rattle.line_ledger.specs.Cells.{FirstSeen}
use Rattle.line_ledger.proofs.cell_row.CellRow.first_seen.Given as goal

-- the first cells so far were seen to hold the first entries
abbrev pub invariant-loop-at : goal.invariant-loop-at
invariant-loop-at l = (length l.seen.items ≡ l.at) × (length l.entries ≤ vec_capacity l.seen) × FirstSeen l.self l.entries l.seen.items
