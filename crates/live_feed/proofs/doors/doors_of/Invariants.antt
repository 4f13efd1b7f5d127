use Rattle.std.proofs.Common.{◌≡◌, ◌+◌, length, vec_len}
use Rattle.std.specs.Vec.Iter.{into_iter_items, into_iter_len}
use Rattle.live_feed.proofs.doors.doors_of.Given as goal

-- a door for each listener that was taken, and as many listeners are left as are to come
abbrev pub invariant-loop-listener : goal.invariant-loop-listener
invariant-loop-listener l = (vec_len l.doors + into_iter_len l.listener-iterator ≡ into_iter_len l.initial.listener-iterator)
    × (into_iter_len l.listener-iterator ≡ length (into_iter_items l.listener-iterator))
