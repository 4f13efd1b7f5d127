use Rattle.std.proofs.Common.{◌≡◌, ◌+◌, ◌≤◌, ◌++◌, map}
use Rattle.std.specs.Vec.{vec_len, vec_capacity}
use Rattle.std.specs.Vec.Iter.{into_iter_items, into_iter_len}
use Rattle.line_ledger.specs.Ends.{whos}
use Rattle.participant_lines.proofs.seats.seats_of_lines.Given as goal

-- the seats that were moved, and those of the lines that are left; and the same of their participants
abbrev pub invariant-loop-seat : goal.invariant-loop-seat
invariant-loop-seat g l =
    (l.seats.items ++ map (λ line. line.0) (into_iter_items l.left) ≡ map (λ line. line.0) l.fn.lines.items) ×
    (whos l.seats.items ++ map (λ line. line.0.who) (into_iter_items l.left) ≡ map (λ line. line.0.who) l.fn.lines.items) ×
    (vec_len l.seats + into_iter_len l.left ≡ vec_len l.fn.lines) × (vec_len l.fn.lines ≤ vec_capacity l.seats)

abbrev pub decreases-loop-seat : goal.decreases-loop-seat
decreases-loop-seat g l = into_iter_len l.left
