-- Defines the results of the calls that read a packet.
use Rattle.std.specs.Prelude.{◌≡◌, ℕ, length, ok_or, slice_get, Result, Ok, Err}
use Rattle.tape_frames.specs.PacketEntries.{first_number}
use Rattle.tape_frames.specs.Kinds.{DATA, BEAT, END}
use Rattle.tape_frames.specs.Packets.{entries_of}
use Rattle.tape_frames.specs.Versions.{version_byte}
use Rattle.tape_frames.specs.Faults.{packet_fault_code}
use Rattle.tape_frames.specs.declared.packet.Packet.{Packet}
use Rattle.tape_frames.specs.declared.packet.Packet.TheVariants.{Data, Beat, End}
use Rattle.tape_frames.specs.declared.packet_fault.PacketFault.{PacketFault}
use Rattle.tapebox_c.specs.Exports.{EntryTold}
use Rattle.tapebox_c.specs.declared.fault.CallFault.TheVariants.{NoEntry}
use Rattle.tapebox_c.specs.declared.rows.EntryRow.{EntryRow}
use Rattle.tapebox_c.specs.declared.rows.PacketFieldsRow.{PacketFieldsRow}

-- what a packet holds besides its entries
abbrev pub packet_fields : Packet → PacketFieldsRow
packet_fields (Data session row) =
    record { session = session; number = first_number row.entries; count = length row.entries; version = version_byte row.version; kind = DATA }
packet_fields (Beat session last) = record { session = session; number = last.count; count = 0; version = version_byte last.version; kind = BEAT }
packet_fields (End session count) = record { session = session; number = count.count; count = 0; version = version_byte count.version; kind = END }

-- what was read of a packet, as a number and a row
abbrev pub ReadsPacket : Result Packet PacketFault → ℕ → PacketFieldsRow → PacketFieldsRow → Type 0
ReadsPacket (Ok q) code old new = (code ≡ 0) × (new ≡ packet_fields q)
ReadsPacket (Err fault) code old new = (code ≡ packet_fault_code fault) × (new ≡ old)

-- the entry at a place of what was read of a packet: 105 if the packet has fewer
abbrev pub GivesEntry : Result Packet PacketFault → ℕ → ℕ → EntryRow → EntryRow → Type 0
GivesEntry (Ok q) place code old new = EntryTold (ok_or (slice_get (entries_of q) place) NoEntry) code old new
GivesEntry (Err fault) place code old new = (code ≡ packet_fault_code fault) × (new ≡ old)
