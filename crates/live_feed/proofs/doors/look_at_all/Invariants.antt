use Rattle.std.proofs.Common.{◌≡◌, length}
use Rattle.live_feed.proofs.doors.look_at_all.Given as goal

-- there are as many doors as before
abbrev pub invariant-loop-at : goal.invariant-loop-at
invariant-loop-at g l = length l.doors ≡ length l.fn.doors
