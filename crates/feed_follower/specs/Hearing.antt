-- What a follower notes of what it hears.
use Rattle.std.specs.Prelude.{◌≡◌, ◌+◌, ◌≤◌, ◌⊎◌, ℕ, List, min, unwrap_or}
use Rattle.tape_types.specs.Ranges.{TAPE_MOST}
use Rattle.tape_frames.specs.declared.packet.Packet.{Packet}
use Rattle.tape_frames.specs.Headers.{header_number_of, last_entry_of}
use Rattle.tape_frames.specs.Spelling.{Spells}
use Rattle.subscriber.specs.Subscribers.{SubscriberState}
use Rattle.feed_follower.specs.Conflicts.{IsIn}
use Rattle.feed_follower.specs.declared.conflicts.Conflicts.{Conflicts}
use Rattle.feed_follower.specs.declared.heard.Heard.{Heard}
use Rattle.feed_follower.specs.declared.heard.Heard.TheVariants.{Taken, NoPacket, Foreign, Conflict, PastEnd}

-- the last number in the header of a packet of the session
abbrev pub told_by : ℕ → Packet → ℕ
told_by session packet = unwrap_or (last_entry_of session packet) (header_number_of packet)

-- the last number that is known of a day: its end, otherwise the greatest that was announced
abbrev pub last_known : SubscriberState → ℕ
last_known s = unwrap_or s.window.ended s.window.announced

-- the number to ask for after a packet with this last number that does not fit what is known of the end
abbrev pub number_past : SubscriberState → ℕ → ℕ
number_past s told = min (last_known s) (min told TAPE_MOST) + 1

-- a number on which packets did not agree is one that a tape may have, or the one right above those
abbrev pub IsHeard : Heard → Type 0
IsHeard Taken = Unit {0}
IsHeard NoPacket = Unit {0}
IsHeard Foreign = Unit {0}
IsHeard (Conflict number) = number ≤ TAPE_MOST + 1
IsHeard PastEnd = Unit {0}

-- a number is to be asked for, or the retransmission was found to have what is known
abbrev pub IsNoted : ℕ → Conflicts → Type 0
IsNoted number conflicts = IsIn number conflicts.wanted ⊎ IsIn number conflicts.found

-- the number on which what came does not agree with what is known, if there is one, is noted
abbrev pub MeetsConflict : SubscriberState → ℕ → List ℕ → Heard → Conflicts → Type 0
MeetsConflict s session bytes Taken conflicts = Unit {0}
MeetsConflict s session bytes NoPacket conflicts = Unit {0}
MeetsConflict s session bytes Foreign conflicts = Unit {0}
MeetsConflict s session bytes (Conflict number) conflicts = IsNoted number conflicts
MeetsConflict s session bytes PastEnd conflicts = (packet : Packet) → Spells bytes packet → IsNoted (number_past s (told_by session packet)) conflicts
