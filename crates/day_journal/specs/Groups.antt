-- Defines a group of a journal: what it must hold, and its bytes.
use Rattle.std.specs.Prelude.{◌≡◌, ◌≤◌, ◌+◌, ◌/◌, ℕ, zero, suc, List, [], ◌++◌, length, take, drop}
use Rattle.std.specs.Int.{w16, w32, to_be_bytes}
use Rattle.sha2.specs.Sha256.{sha256}
use Rattle.tape_core.specs.declared.entry.Entry.{Entry}
use Rattle.tape_frames.specs.declared.packet.Packet.{Packet}
use Rattle.tape_frames.specs.declared.packet.Packet.TheVariants.{Data}
use Rattle.tape_frames.specs.declared.version.Version.TheVariants.{Two}
use Rattle.tape_frames.specs.PacketEntries.{IsNumberedFrom}
use Rattle.tape_frames.specs.Limits.{ENTRIES_MOST}
use Rattle.tape_frames.specs.Sources.{sendable}
use Rattle.tape_frames.specs.Spelling.{IsPacket, packet_text}
use Rattle.tape_types.specs.Ranges.{TAPE_MOST}

-- the entries of a source that a journal of this many does not have yet
abbrev pub pending : ℕ → List Entry → List Entry
pending held list = drop held (sendable Two list)

-- the first packet of these entries: it has as many as a packet may, or all of them
abbrev pub first_packet : ℕ → List Entry → Packet
first_packet session es = Data session (record { version = Two; entries = take ENTRIES_MOST es })

-- how many packets carry the entries
abbrev pub packet_count : List Entry → ℕ
packet_count es = (length es + 15) / ENTRIES_MOST

-- a packet's text after its length
abbrev pub frame_text : List ℕ → List ℕ
frame_text text = to_be_bytes w16 (length text) ++ text

-- this many packets of the entries, each after its length
unfoldable pub packets_text : ℕ → ℕ → List Entry → List ℕ
packets_text zero session es = []
packets_text (suc count) session es = frame_text (packet_text (first_packet session es)) ++ packets_text count session (drop ENTRIES_MOST es)

-- what the digest covers: the packets, a length of 0 and the number of entries
abbrev pub group_body : ℕ → List Entry → List ℕ
group_body session es = packets_text (packet_count es) session es ++ (to_be_bytes w16 0 ++ to_be_bytes w32 (length es))

-- a group's digest, chained to the one before it
abbrev pub group_digest : ℕ → List ℕ → List Entry → List ℕ
group_digest session before es = sha256 (before ++ group_body session es)

-- a group's bytes
abbrev pub group_text : ℕ → List ℕ → List Entry → List ℕ
group_text session before es = group_body session es ++ group_digest session before es

-- the entries are carried by this many packets, each of which has a spelling
unfoldable pub ArePackets : ℕ → ℕ → List Entry → Type 0
ArePackets zero session es = es ≡ []
ArePackets (suc count) session es = IsPacket (first_packet session es) × ArePackets count session (drop ENTRIES_MOST es)

-- one or more entries that follow this many of a tape, as packets carry them
pub record IsGroup (session held : ℕ) (es : List Entry) : Type 0 where
  pub some : 1 ≤ length es
  pub within : held + length es ≤ TAPE_MOST
  pub numbered : IsNumberedFrom (held + 1) es
  pub packets : ArePackets (packet_count es) session es
