use Rattle.std.proofs.Common.{◌≡◌, ◌+◌, ◌≤◌, ◌++◌, map}
use Rattle.std.specs.Vec.{vec_len, vec_capacity}
use Rattle.std.specs.Vec.Iter.{into_iter_items, into_iter_len}
use Rattle.participant_lines.proofs.lines.line_ends.Given as goal

-- the ends that were made, and those of the tallied ends that are left
abbrev pub invariant-loop-end : goal.invariant-loop-end
invariant-loop-end g l =
    (l.ends.items ++ map (λ r. record { seat = r.seat; refused = r.tally.refused; ended = r.ended }) (into_iter_items l.left)
    ≡ map (λ r. record { seat = r.seat; refused = r.tally.refused; ended = r.ended }) l.fn.tallied.items) ×
    (vec_len l.ends + into_iter_len l.left ≡ vec_len l.fn.tallied) × (vec_len l.fn.tallied ≤ vec_capacity l.ends)

abbrev pub decreases-loop-end : goal.decreases-loop-end
decreases-loop-end g l = into_iter_len l.left
