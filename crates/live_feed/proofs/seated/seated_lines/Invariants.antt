use Rattle.std.proofs.Common.{◌≡◌, ◌+◌, ◌≤◌, ◌++◌, map}
use Rattle.std.specs.Vec.{vec_len, vec_capacity}
use Rattle.std.specs.Vec.Iter.{into_iter_items, into_iter_len}
use Rattle.line_ledger.specs.Ends.{whos}
use Rattle.live_feed.proofs.seated.seated_lines.Given as goal

-- the participants of the lines that were made, and of the seats that are left; as many readers are left as seats, and those of
-- the lines that were made stand before them
abbrev pub invariant-loop-seat : goal.invariant-loop-seat
invariant-loop-seat g l =
    (map (λ line. line.0.who) l.lines.items ++ whos (into_iter_items l.left) ≡ whos l.fn.seats.items) ×
    (vec_len l.lines + into_iter_len l.left ≡ vec_len l.fn.seats) × (vec_len l.fn.seats ≤ vec_capacity l.lines) ×
    (into_iter_len l.readers ≡ into_iter_len l.left) ×
    (map (λ line. line.1) l.lines.items ++ into_iter_items l.readers ≡ l.fn.readers.items)

abbrev pub decreases-loop-seat : goal.decreases-loop-seat
decreases-loop-seat g l = into_iter_len l.left
