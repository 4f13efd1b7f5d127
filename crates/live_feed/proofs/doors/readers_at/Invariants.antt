use Rattle.std.proofs.Common.{◌≡◌, ◌+◌, length, vec_len}
use Rattle.std.specs.Vec.Iter.{into_iter_items, into_iter_len}
use Rattle.live_feed.proofs.doors.readers_at.Given as goal

-- a reader for each door that was taken, and as many doors are left as are to come
abbrev pub invariant-loop-door : goal.invariant-loop-door
invariant-loop-door g l = (vec_len l.readers + into_iter_len l.door-iterator ≡ into_iter_len l.initial.door-iterator)
    × (into_iter_len l.door-iterator ≡ length (into_iter_items l.door-iterator))
