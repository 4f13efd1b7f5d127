use Rattle.std.proofs.Common.{◌≡◌, ◌++◌, [], List}
use Rattle.line_ledger.specs.Cursors.{AllStandAt}
use Rattle.line_ledger.specs.Seats.{SeatState}
use Rattle.line_ledger.proofs.cursor.Cursors.new.Given as goal

-- the cursors stand over what the last seats were told
abbrev pub invariant-loop-seat : goal.invariant-loop-seat
invariant-loop-seat g l = (last : List SeatState) × (l.seat-iterator.iter.rest.now ++ last ≡ l.seats) × AllStandAt l.row last []
