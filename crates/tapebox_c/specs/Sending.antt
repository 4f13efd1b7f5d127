-- Defines the results of the calls of a tape's sender.
use Rattle.std.specs.Prelude.{◌≡◌, ◌⊎◌, ◌==◌, ◌||◌, ◌++◌, ℕ, nat_le, nat_lt, Bool, true, false, List, length, take, drop, min, ok_or, replicate, Option, None, Some, Result, Ok, Err, Vec, if◌then◌else◌}
use Rattle.tape_core.specs.Tape.{TapeState}
use Rattle.tape_core.specs.declared.entry.Entry.{Entry}
use Rattle.tape_frames.specs.PacketEntries.{CountState}
use Rattle.tape_frames.specs.Limits.{LONGEST_PACKET, REQUEST_LENGTH}
use Rattle.tape_frames.specs.Spelling.{packet_text}
use Rattle.tape_frames.specs.Versions.{number_most}
use Rattle.tape_frames.specs.declared.packet.Packet.{Packet}
use Rattle.tape_frames.specs.declared.packet_fault.PacketFault.{PacketFault}
use Rattle.tape_frames.specs.declared.packet_fault.PacketFault.TheVariants.{BadVersion, BadCount}
use Rattle.tape_frames.specs.declared.version.Version.{Version}
use Rattle.retransmit.specs.Answers.{answer_text, last_sendable, packet_cut}
use Rattle.tapebox_c.specs.Faults.{fault_code}
use Rattle.tapebox_c.specs.declared.fault.CallFault.{CallFault}
use Rattle.tapebox_c.specs.declared.fault.CallFault.TheVariants.{NoTape, NoEntry, NoPacket, NoRequest, OutOfMemory}
use Rattle.tapebox_c.specs.declared.rows.PacketRow.{PacketRow}

-- the packet of entries from a number on, if they have it and the version has such numbers
abbrev pub packet_from : List Entry → Version → ℕ → ℕ → Option Packet
packet_from es version session from =
    if (from == 0) || nat_lt (last_sendable version es) from then None else Some (packet_cut session version es from)

-- the packet of the entries from a number on, as if the list ended with another
abbrev pub packet_between : List Entry → Version → ℕ → ℕ → ℕ → Option Packet
packet_between es version session from to = packet_from (take (min (length es) to) es) version session from

-- the packet of a tape, or the first thing wrong: 52 for the version, 101 without a tape, 105 without such an entry
abbrev pub cut_due : Option Version → Option TapeState → ℕ → ℕ → ℕ → Result Packet CallFault
cut_due None tape session from to = Err (NoPacket BadVersion)
cut_due (Some version) None session from to = Err NoTape
cut_due (Some version) (Some t) session from to = ok_or (packet_between t.entries version session from to) NoEntry

-- a number that a packet of a version has: 52 for the version, 54 if the number is above its greatest
abbrev pub count_due : Option Version → ℕ → Result CountState PacketFault
count_due None number = Err BadVersion
count_due (Some version) number = if nat_le number (number_most version) then Ok (record { version = version; count = number }) else Err BadCount

-- the packet that has a number
abbrev pub told_due : (CountState → Packet) → Result CountState PacketFault → Result Packet CallFault
told_due make (Ok count) = Ok (make count)
told_due make (Err fault) = Err (NoPacket fault)

-- a row is a packet's bytes, with zeros after them
pub record IsPacketRow (q : Packet) (row : PacketRow) : Type 0 where
  pub len : row.len ≡ length (packet_text q)
  pub bytes : take row.len row.bytes ≡ packet_text q
  pub zeros : drop row.len row.bytes ≡ drop row.len (replicate LONGEST_PACKET 0)

-- a packet, or that memory ran out for it
abbrev pub PacketTold : Packet → ℕ → PacketRow → PacketRow → Type 0
PacketTold q code old new = ((code ≡ 0) × IsPacketRow q new) ⊎ ((code ≡ 109) × (new ≡ old))

-- the packet that is due, or what is wrong
abbrev pub PacketIn : Result Packet CallFault → ℕ → PacketRow → PacketRow → Type 0
PacketIn (Err fault) code old new = (code ≡ fault_code fault) × (new ≡ old)
PacketIn (Ok q) code old new = PacketTold q code old new

-- the bytes of the answer to a request, or what is wrong: 52 for the version, 101 without a tape
abbrev pub answer_over : Option Version → Option TapeState → ℕ → List ℕ → Result (List ℕ) CallFault
answer_over None tape session request = Err (NoPacket BadVersion)
answer_over (Some version) None session request = Err NoTape
answer_over (Some version) (Some t) session request = Ok (answer_text t.entries session version request)

-- the answer that is due, or what is wrong, or that memory ran out for it
abbrev pub Makes : {Z : Type 0} → Result (List ℕ) CallFault → Result (Vec ℕ Z) CallFault → Type 0
Makes (Ok text) (Ok made) = made.items ≡ text
Makes (Ok text) (Err fault) = fault ≡ OutOfMemory
Makes (Err due) (Ok made) = ⊥
Makes (Err due) (Err fault) = fault ≡ due

-- the same, if the bytes are as many as a request has, else 107
abbrev pub answer_due : Option Version → Option TapeState → ℕ → List ℕ → Result (List ℕ) CallFault
answer_due version tape session request = if length request == REQUEST_LENGTH then answer_over version tape session request else Err NoRequest

-- a text at the front of a row, with its length; 108 if the row is shorter, which the first value states
abbrev pub TellsIn : Bool → List ℕ → ℕ → List ℕ → List ℕ → ℕ → ℕ → Type 0
TellsIn true text code old new len len' = (code ≡ 108) × (new ≡ old) × (len' ≡ len)
TellsIn false text code old new len len' = (code ≡ 0) × (new ≡ text ++ drop (length text) old) × (len' ≡ length text)

-- a text at the front of a row
abbrev pub TellsText : List ℕ → ℕ → List ℕ → List ℕ → ℕ → ℕ → Type 0
TellsText text code old new len len' = TellsIn (nat_lt (length old) (length text)) text code old new len len'

-- the answer that is due, or what is wrong, or that memory ran out for it, as a number, a row and a length
abbrev pub ServesIn : Result (List ℕ) CallFault → ℕ → List ℕ → List ℕ → ℕ → ℕ → Type 0
ServesIn (Err fault) code old new len len' = (code ≡ fault_code fault) × (new ≡ old) × (len' ≡ len)
ServesIn (Ok text) code old new len len' = TellsText text code old new len len' ⊎ ((code ≡ 109) × (new ≡ old) × (len' ≡ len))
