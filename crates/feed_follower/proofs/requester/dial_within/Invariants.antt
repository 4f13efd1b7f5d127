use Rattle.std.proofs.Common.{◌≡◌, IfErr}
use Rattle.feed_ends.specs.declared.fault.Fault.TheVariants.{Read}
use Rattle.feed_follower.specs.Reported.{follow_fault}
use Rattle.feed_follower.proofs.requester.dial_within.Given as goal

-- a dial that failed is a fault of reading
abbrev pub invariant-loop-again : goal.invariant-loop-again
invariant-loop-again g l = IfErr l.dialed (λ fault. follow_fault fault ≡ Read)
