use Rattle.std.proofs.Common.{◌≡◌, take}
use Rattle.recorded_tapes.proofs.difference.common_front.Given as goal

-- the bytes so far are the same
abbrev pub invariant-loop-place : goal.invariant-loop-place
invariant-loop-place l = take l.place l.one ≡ take l.place l.other
