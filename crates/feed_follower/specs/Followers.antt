-- What a follower keeps while packets come, and what becomes of each of them.
use Rattle.std.specs.Prelude.{◌≡◌, ◌≤◌, ℕ, List, length, Result, Ok, Err, IsSomeAnd}
use Rattle.arbitration.specs.declared.line.Line.{Line}
use Rattle.arbitration.specs.declared.deliver_fault.DeliverFault.TheVariants as refused
use Rattle.arbitration.specs.declared.taken.Taken as counts
use Rattle.tape_frames.specs.declared.packet_fault.PacketFault.{PacketFault}
use Rattle.feed_ends.specs.declared.fault.Fault.{Fault}
use Rattle.feed_ends.specs.declared.fault.Fault.TheVariants.{Disagrees}
use Rattle.subscriber.specs.declared.delivery_fault.DeliveryFault.{DeliveryFault}
use Rattle.subscriber.specs.declared.delivery_fault.DeliveryFault.TheVariants as delivery
use Rattle.feed_follower.specs.Accounts.{account_with}
use Rattle.feed_follower.specs.declared.account.FollowAccount.{FollowAccount}
use Rattle.feed_follower.specs.declared.heard.Heard.{Heard}
use Rattle.feed_follower.specs.declared.heard.Heard.TheVariants.{Taken, NoPacket, Foreign, Conflict, PastEnd}
use Rattle.subscriber.specs.Drains.{Delivers, RefusesDelivery}
use Rattle.subscriber.specs.Subscribers.{SubscriberState}
use Rattle.tape_core.specs.Tape.{TapeState}

-- a tape has the names, the matrix and the limit that it had before
abbrev pub KeepsTerms : TapeState → TapeState → Type 0
KeepsTerms t t' = (t'.listing ≡ t.listing) × (t'.matrix ≡ t.matrix) × (t'.limit ≡ t.limit)

-- what is known of the day, apart from its entries, is what was known before
abbrev pub KeepsNews : SubscriberState → SubscriberState → Type 0
KeepsNews s s' =
    (s'.window.session ≡ s.window.session) × (s'.window.announced ≡ s.window.announced) × (s'.window.ended ≡ s.window.ended)
    × (s'.window.brought ≡ s.window.brought)

-- the end is known, and all is held
abbrev pub HasAllOf : SubscriberState → Type 0
HasAllOf s = IsSomeAnd s.window.ended (λ count. length s.tape.entries ≡ count)

-- what becomes of a refused delivery; a subscriber that has failed disagrees
abbrev pub heard_of : DeliveryFault → Result Heard Fault
heard_of delivery.Failed = Err Disagrees
heard_of (delivery.NoPacket fault) = Ok NoPacket
heard_of (delivery.Refused refused.Foreign) = Ok Foreign
heard_of (delivery.Refused (refused.Conflict number)) = Ok (Conflict number)
heard_of (delivery.Refused refused.PastEnd) = Ok PastEnd

-- what came by a line is taken, or dropped for the first reason that applies
abbrev pub Comes : Line → List ℕ → Heard → SubscriberState → SubscriberState → Type 0
Comes line bytes Taken old new = (taken : counts.Taken) × Delivers line bytes taken old new
Comes line bytes NoPacket old new = (fault : PacketFault) × RefusesDelivery old bytes (delivery.NoPacket fault) × (new ≡ old)
Comes line bytes Foreign old new = RefusesDelivery old bytes (delivery.Refused refused.Foreign) × (new ≡ old)
Comes line bytes (Conflict number) old new = RefusesDelivery old bytes (delivery.Refused (refused.Conflict number)) × (new ≡ old)
Comes line bytes PastEnd old new = RefusesDelivery old bytes (delivery.Refused refused.PastEnd) × (new ≡ old)

-- an account has the counts of another
abbrev pub HasCounts : FollowAccount → FollowAccount → Type 0
HasCounts a b = (b.a ≡ a.a) × (b.b ≡ a.b) × (b.retransmission ≡ a.retransmission)

-- what came by a line was delivered, whatever was replayed then, and counted, unless it is the follower's own empty datagram
pub record IsDelivered (line : Line) (bytes : List ℕ) (old new : SubscriberState) (had has : FollowAccount) : Type 0 where
  pub heard : Heard
  pub between : SubscriberState
  pub comes : Comes line bytes heard old between
  pub news : KeepsNews between new
  pub counted : 1 ≤ length bytes → HasCounts (account_with line heard had) has
