use Rattle.std.proofs.Common.{◌≡◌, ◌≤◌, take}
use Rattle.line_ledger.specs.Ends.{seats_of}
use Rattle.line_ledger.proofs.ends.seats_of.Given as goal

abbrev pub invariant-loop-seat : goal.invariant-loop-seat
invariant-loop-seat g l = (l.many ≡ seats_of l.who (take l.seat-index l.seats)) × (l.many ≤ l.seat-index)
