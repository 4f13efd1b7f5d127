use Rattle.std.proofs.Common.{◌≡◌, false, take}
use Rattle.std.specs.List.{list_any}
use Rattle.live_feed.specs.Accounts.{is_awaited}
use Rattle.live_feed.proofs.status.is_any_awaited.Given as goal

-- none of the lines so far is waited for
abbrev pub invariant-loop-line : goal.invariant-loop-line
invariant-loop-line l = list_any (λ line. is_awaited line.stage) (take l.line-index l.lines) ≡ false
