use Rattle.std.proofs.Common.{◌≡◌, vec_len}
use Rattle.live_feed.proofs.operation.Operation.new.Given as goal

-- a line for each participant so far
abbrev pub invariant-loop-who : goal.invariant-loop-who
invariant-loop-who g l = vec_len l.lines ≡ l.who-index
