use Rattle.std.proofs.Common.{◌≢◌, ◌<◌, ℕ, get_or}
use Rattle.line_ledger.specs.Seats.{SeatState}
use Rattle.live_feed.proofs.restoring.seat_of.Given as goal

-- no seat before is the participant's
abbrev pub invariant-loop-at : goal.invariant-loop-at
invariant-loop-at g l = (i : ℕ) (d : SeatState) → i < l.at → (get_or l.seats i d).who ≢ l.who
