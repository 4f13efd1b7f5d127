-- The results of a delivery and of a drain, and the state after them.
use Rattle.std.specs.Prelude.{◌≡◌, ℕ, ◌+◌, ◌-◌, ◌≤◌, ◌<◌, ◌⊎◌, true, false, Option, None, Some, Err, List, length, unwrap_or, IsSomeAnd}
use Rattle.tape_core.specs.declared.entry.Entry.{Entry}
use Rattle.tape_core.specs.declared.refusal.Refusal.{Refusal}
use Rattle.tape_core.specs.declared.refusal.Refusal.TheVariants as refused
use Rattle.tape_core.specs.Tape.{refusal}
use Rattle.tape_frames.specs.declared.packet.Packet.{Packet}
use Rattle.tape_frames.specs.Headers.{last_entry_of}
use Rattle.tape_frames.specs.Packets.{entries_of}
use Rattle.tape_frames.specs.Reading.{packet_of}
use Rattle.tape_frames.specs.Spelling.{Spells}
use Rattle.arbitration.specs.declared.line.Line.{Line}
use Rattle.arbitration.specs.declared.taken.Taken.{Taken}
use Rattle.arbitration.specs.Deliveries.{Accepts, Refuses, window_after}
use Rattle.arbitration.specs.Counts.{taken_of}
use Rattle.arbitration.specs.Windows.{next_of}
use Rattle.subscriber.specs.declared.delivery_fault.DeliveryFault.{DeliveryFault}
use Rattle.subscriber.specs.declared.delivery_fault.DeliveryFault.TheVariants as delivery
use Rattle.subscriber.specs.declared.drain_fault.Stop.{Stop}
use Rattle.subscriber.specs.declared.drain_fault.Stop.TheVariants.{Refused, OtherSummary, Failed}
use Rattle.subscriber.specs.declared.drain_fault.DrainFault.{DrainFault}
use Rattle.subscriber.specs.Subscribers.{SubscriberState, own_entry, with_entry, subscriber_after, NextIsOwn}

-- bytes are taken as the packet that they spell, with these counts
pub record Delivers (line : Line) (bytes : List ℕ) (taken : Taken) (old new : SubscriberState) : Type 0 where
  pub packet : Packet
  pub running : old.failed ≡ false
  pub spelled : Spells bytes packet
  pub accepted : Accepts old.window old.tape.entries packet
  pub counts : taken ≡ taken_of (old.window.base + 1) old.window.slots (entries_of packet)
  pub state : new ≡ record old { window = window_after old.window line packet }

-- bytes are refused, by the first reason that applies
abbrev pub RefusesDelivery : SubscriberState → List ℕ → DeliveryFault → Type 0
RefusesDelivery s bytes delivery.Failed = s.failed ≡ true
RefusesDelivery s bytes (delivery.NoPacket fault) = (s.failed ≡ false) × (packet_of bytes ≡ Err fault)
RefusesDelivery s bytes (delivery.Refused fault) =
    (s.failed ≡ false) × (packet : Packet) × Spells bytes packet × Refuses s.window s.tape.entries packet fault

-- the packet is of the session and brings entries, and each of their numbers is held
abbrev pub BringsHeld : SubscriberState → Packet → Type 0
BringsHeld s packet = IsSomeAnd (last_entry_of s.window.session packet) (λ last. last ≤ length s.tape.entries)

-- each of the next n entries is the one that its own tape makes from the message
abbrev pub OwnFor : ℕ → SubscriberState → Type 0
OwnFor n s = (k : ℕ) → k < n → NextIsOwn (subscriber_after k s)

-- all n entries that were ready are held, and each is the feed's
pub record DrainsAll (n : ℕ) (old new : SubscriberState) : Type 0 where
  pub running : old.failed ≡ false
  pub own : OwnFor n old
  pub held : length new.tape.entries ≡ length old.tape.entries + n
  pub state : new ≡ subscriber_after n old
  pub nothing_ready : next_of new.window ≡ None

-- none was ready, or the next entry is held and is the feed's
abbrev pub DrainsNext : Option Entry → SubscriberState → SubscriberState → Type 0
DrainsNext None old new = (old.failed ≡ false) × (next_of old.window ≡ None) × (new ≡ old)
DrainsNext (Some entry) old new =
    (old.failed ≡ false) × (next_of old.window ≡ Some entry) × (own_entry old entry.message ≡ entry) × (new ≡ with_entry entry old)
    × (refusal old.tape entry.message ≡ None)

-- its own tape refuses the next entry's message for this reason, or is out of memory
pub record IsRefused (why : Refusal) (s : SubscriberState) : Type 0 where
  pub entry : Entry
  pub ready : next_of s.window ≡ Some entry
  pub first : why ≡ unwrap_or (refusal s.tape entry.message) refused.OutOfMemory

-- why a drain stops after n entries
abbrev pub StopsFor : Stop → ℕ → SubscriberState → Type 0
StopsFor (Refused why) n s = (s.failed ≡ false) × OwnFor n s × IsRefused why (subscriber_after n s)
StopsFor OtherSummary n s = (s.failed ≡ false) × (1 ≤ n) × OwnFor (n - 1) s × ¬ (NextIsOwn (subscriber_after (n - 1) s))
StopsFor Failed n s = (s.failed ≡ true) × (n ≡ 0)

-- a drain stops, and the entries that it counts are held
pub record DrainStops (fault : DrainFault) (old new : SubscriberState) : Type 0 where
  pub why : StopsFor fault.why fault.drained old
  pub held : length new.tape.entries ≡ length old.tape.entries + fault.drained
  pub state : new ≡ subscriber_after fault.drained old

-- a stop that can come with an honest feed: out of memory, or at the subscriber's own limit
abbrev pub IsHonestStop : Stop → SubscriberState → Type 0
IsHonestStop (Refused why) s = (why ≡ refused.OutOfMemory) ⊎ ((why ≡ refused.Full) × (length s.tape.entries ≡ s.tape.limit))
IsHonestStop OtherSummary s = ⊥
IsHonestStop Failed s = ⊥
