-- The numbers on which packets did not agree.
use Rattle.std.specs.Prelude.{◌≡◌, ◌-◌, ◌+◌, ◌≤◌, ◌<◌, ℕ, List, min, Some, All}
use Rattle.tape_frames.specs.declared.packet.Packet.{Packet}
use Rattle.tape_frames.specs.declared.request.Request.{Request}
use Rattle.tape_frames.specs.Headers.{header_number_of, last_entry_of}
use Rattle.tape_frames.specs.Packets.{entries_of}
use Rattle.tape_frames.specs.Spelling.{Spells}
use Rattle.arbitration.specs.Deliveries.{Agrees}
use Rattle.arbitration.specs.Gaps.{ASKED_MOST}
use Rattle.subscriber.specs.Subscribers.{SubscriberState}
use Rattle.feed_follower.specs.declared.conflicts.Numbers.{Numbers}

-- a number is in a range
abbrev pub IsIn : ℕ → Numbers → Type 0
IsIn n numbers = (numbers.from ≤ n) × (n < numbers.before)

-- a request asks for the first of these numbers, for no others, and for as many as one request can have
abbrev pub AsksFor : Numbers → Request → Type 0
AsksFor numbers request =
    (request.from ≡ numbers.from) × (numbers.from < numbers.before) × (request.count ≡ min (numbers.before - numbers.from) ASKED_MOST)

-- a packet of the retransmission shows these numbers as they are known: it brings each of them, and no entry of it is another
-- than is known
pub record Shows (s : SubscriberState) (bytes : List ℕ) (from before : ℕ) : Type 0 where
  pub packet : Packet
  pub spelled : Spells bytes packet
  pub agrees : All (Agrees s.tape.entries (s.window.base + 1) s.window.slots) (entries_of packet)
  pub first : header_number_of packet ≤ from
  pub last : last_entry_of s.window.session packet ≡ Some (before - 1)
