-- A run that is over and well holds all.
use Rattle.std.proofs.Common.{◌≡◌, Option, None, Some, Result, OnOk, sym}
use Rattle.std.specs.Prelude.{IfSome}
use Rattle.std.proofs.lemmas.Option.{none-some}
use Rattle.feed_ends.specs.declared.fault.Fault.{Fault}
use Rattle.feed_follower.specs.Followers.{HasAllOf}
use Rattle.subscriber.specs.Subscribers.{SubscriberState}

-- one that is not over need not hold all
pub going : {T : Type 0} (s : SubscriberState) (over : Option (Result T Fault)) → over ≡ None → IfSome over (λ (ended : Result T Fault). OnOk ended (HasAllOf s))
going s None is = tt
going s (Some ended) is = absurd (none-some ended (sym is))
