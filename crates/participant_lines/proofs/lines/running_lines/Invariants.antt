use Rattle.std.proofs.Common.{◌≡◌, ◌+◌, ◌≤◌, ◌++◌, map}
use Rattle.std.specs.Vec.{vec_len, vec_capacity}
use Rattle.std.specs.Vec.Iter.{into_iter_items, into_iter_len}
use Rattle.participant_lines.specs.Lines.{held}
use Rattle.participant_lines.proofs.lines.running_lines.Given as goal

-- the lines that were moved, and those that are left
abbrev pub invariant-loop-seat : goal.invariant-loop-seat
invariant-loop-seat g l =
    (map (λ r. (r.seat, r.reader)) l.running.items ++ map held (into_iter_items l.left)
    ≡ map held l.fn.lines.items) ×
    (vec_len l.running + into_iter_len l.left ≡ vec_len l.fn.lines) × (vec_len l.fn.lines ≤ vec_capacity l.running)

abbrev pub decreases-loop-seat : goal.decreases-loop-seat
decreases-loop-seat g l = into_iter_len l.left
