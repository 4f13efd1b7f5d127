-- What the header of a packet says, read from the front of bytes.
use Rattle.std.specs.Prelude.{ℕ, ◌==◌, if◌then◌else◌, List, Option, Some, None, Result, Ok}
use Rattle.std.specs.Int.{w8, w32, w64}
use Rattle.reports.specs.Fields.{◌>>=◌, number_at}
use Rattle.tape_frames.specs.PacketEntries.{first_number, last_number}
use Rattle.tape_frames.specs.declared.header.PacketHeader.{PacketHeader}
use Rattle.tape_frames.specs.declared.packet.Packet.{Packet}
use Rattle.tape_frames.specs.declared.packet.Packet.TheVariants.{Data, Beat, End}
use Rattle.tape_frames.specs.declared.packet_fault.PacketFault.{PacketFault}
use Rattle.tape_frames.specs.declared.packet_fault.PacketFault.TheVariants.{Short}

-- a header, whatever its version, with its kind, its session, its number and its count
unfoldable pub header_at : List ℕ → Result (PacketHeader × List ℕ) PacketFault
header_at bytes = do
  version ← number_at Short w8 bytes
  kind ← number_at Short w8 version.1
  session ← number_at Short w64 kind.1
  number ← number_at Short w32 session.1
  count ← number_at Short w8 number.1
  Ok (record { kind = kind.0; session = session.0; number = number.0; count = count.0 }, count.1)

-- the number in a packet's header: of its first entry, or the one that a beat or an end states
abbrev pub header_number_of : Packet → ℕ
header_number_of (Data session row) = first_number row.entries
header_number_of (Beat session last) = last.count
header_number_of (End session count) = count.count

-- the number of the last entry that a packet of the session brings
abbrev pub last_entry_of : ℕ → Packet → Option ℕ
last_entry_of session (Data other row) = if other == session then Some (last_number row.entries) else None
last_entry_of session (Beat other last) = None
last_entry_of session (End other count) = None
