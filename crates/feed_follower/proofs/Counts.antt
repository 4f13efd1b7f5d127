-- The counts of an account after one more packet.
use Rattle.std.proofs.Common.{◌≡◌, ◌∙◌, ap}
use Rattle.arbitration.specs.declared.line.Line.{Line}
use Rattle.arbitration.specs.declared.line.Line.TheVariants.{A, B, R}
use Rattle.feed_follower.specs.Accounts.{account_with, with_heard}
use Rattle.feed_follower.specs.Followers.{HasCounts}
use Rattle.feed_follower.specs.declared.account.FollowAccount.{FollowAccount}
use Rattle.feed_follower.specs.declared.heard.Heard.{Heard}

-- one more packet of a line, if the counts were those of another account
pub counts_with : (line : Line) (heard : Heard) (old between new : FollowAccount) → HasCounts old between → new ≡ account_with line heard between
    → HasCounts (account_with line heard old) new
counts_with A heard old between new same is = (
  ap (λ (a : FollowAccount). a.a) is ∙ ap (with_heard heard) same.0,
  ap (λ (a : FollowAccount). a.b) is ∙ same.1,
  ap (λ (a : FollowAccount). a.retransmission) is ∙ same.2,
)
counts_with B heard old between new same is = (
  ap (λ (a : FollowAccount). a.a) is ∙ same.0,
  ap (λ (a : FollowAccount). a.b) is ∙ ap (with_heard heard) same.1,
  ap (λ (a : FollowAccount). a.retransmission) is ∙ same.2,
)
counts_with R heard old between new same is = (
  ap (λ (a : FollowAccount). a.a) is ∙ same.0,
  ap (λ (a : FollowAccount). a.b) is ∙ same.1,
  ap (λ (a : FollowAccount). a.retransmission) is ∙ ap (with_heard heard) same.2,
)
