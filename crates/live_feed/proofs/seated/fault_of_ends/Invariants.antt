use Rattle.std.proofs.Common.{map, take}
use Rattle.live_feed.specs.Faults.{IsLeast, line_fault}
use Rattle.live_feed.proofs.seated.fault_of_ends.Given as goal

-- the fault of the ends that were looked at
abbrev pub invariant-loop-end : goal.invariant-loop-end
invariant-loop-end g l = IsLeast (map (λ end. line_fault end.ended) (take l.end-index l.ends)) l.fault
