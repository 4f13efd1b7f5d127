use Rattle.std.proofs.Common.{◌≡◌, ◌+◌, ◌≤◌, ◌++◌, map}
use Rattle.std.specs.Vec.{vec_len, vec_capacity}
use Rattle.std.specs.Vec.Iter.{into_iter_items, into_iter_len}
use Rattle.line_ledger.specs.Ends.{whos}
use Rattle.participant_lines.proofs.seats.seats_of_tallied.Given as goal

-- the seats that were moved, and those of the ends that are left; and the same of their participants
abbrev pub invariant-loop-end : goal.invariant-loop-end
invariant-loop-end g l =
    (l.seats.items ++ map (λ e. e.seat) (into_iter_items l.left) ≡ map (λ e. e.seat) l.fn.tallied.items) ×
    (whos l.seats.items ++ map (λ e. e.seat.who) (into_iter_items l.left) ≡ map (λ e. e.seat.who) l.fn.tallied.items) ×
    (vec_len l.seats + into_iter_len l.left ≡ vec_len l.fn.tallied) × (vec_len l.fn.tallied ≤ vec_capacity l.seats)

abbrev pub decreases-loop-end : goal.decreases-loop-end
decreases-loop-end g l = into_iter_len l.left
