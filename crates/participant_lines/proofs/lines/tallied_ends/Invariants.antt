use Rattle.std.proofs.Common.{◌≡◌, ◌+◌, ◌≤◌, ◌++◌, map}
use Rattle.std.specs.Vec.{vec_len, vec_capacity}
use Rattle.std.specs.Vec.Iter.{into_iter_items, into_iter_len}
use Rattle.participant_lines.proofs.lines.tallied_ends.Given as goal

-- the ends that were made, and those of the lines that are left
abbrev pub invariant-loop-line : goal.invariant-loop-line
invariant-loop-line g l =
    (l.ends.items ++ map (λ r. record { seat = r.seat; tally = r.outcome.tally; ended = r.outcome.ended }) (into_iter_items l.left)
    ≡ map (λ r. record { seat = r.seat; tally = r.outcome.tally; ended = r.outcome.ended }) l.fn.running.items) ×
    (vec_len l.ends + into_iter_len l.left ≡ vec_len l.fn.running) × (vec_len l.fn.running ≤ vec_capacity l.ends)

abbrev pub decreases-loop-line : goal.decreases-loop-line
decreases-loop-line g l = into_iter_len l.left
