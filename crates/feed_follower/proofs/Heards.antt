-- What becomes of the bytes of a refused delivery.
use Rattle.std.proofs.Common.{◌≡◌, ℕ, List, Result, Ok, Err, IfOk, IsOk, true, false, refl, sym, ◌∙◌}
use Rattle.std.specs.Prelude.{Bool}
use Rattle.arbitration.specs.declared.line.Line.{Line}
use Rattle.arbitration.specs.declared.deliver_fault.DeliverFault.TheVariants as refused
use Rattle.subscriber.specs.declared.delivery_fault.DeliveryFault.{DeliveryFault}
use Rattle.subscriber.specs.declared.delivery_fault.DeliveryFault.TheVariants as delivery
use Rattle.subscriber.specs.Drains.{RefusesDelivery}
use Rattle.subscriber.specs.Subscribers.{SubscriberState}
use Rattle.feed_follower.specs.Followers.{Comes, heard_of}
use Rattle.feed_follower.specs.declared.heard.Heard.{Heard}

-- what became of the bytes
pub came_of : (fault : DeliveryFault) (line : Line) (bytes : List ℕ) (old new : SubscriberState) → RefusesDelivery old bytes fault → new ≡ old
    → IfOk (heard_of fault) (λ (heard : Heard). Comes line bytes heard old new)
came_of delivery.Failed line bytes old new refuses same = tt
came_of (delivery.NoPacket fault) line bytes old new refuses same = (fault, refuses, same)
came_of (delivery.Refused refused.Foreign) line bytes old new refuses same = (refuses, same)
came_of (delivery.Refused (refused.Conflict number)) line bytes old new refuses same = (refuses, same)
came_of (delivery.Refused refused.PastEnd) line bytes old new refuses same = (refuses, same)
