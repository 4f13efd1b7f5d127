use Rattle.std.proofs.Common.{◌≡◌, None}
use Rattle.feed_follower.proofs.follower.Follower.take_all.Given as goal

-- the run is not over, nothing more was asked for, and no fault has a name that it had not
abbrev pub invariant-loop-packet : goal.invariant-loop-packet
invariant-loop-packet g l = (l.self.over ≡ None) × (l.self.account.asked ≡ l.fn.self.account.asked) × (l.self.why ≡ l.fn.self.why)
