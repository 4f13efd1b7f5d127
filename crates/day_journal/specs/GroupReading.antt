-- Defines how a group is read from the front of bytes, packet after packet.
use Rattle.std.specs.Prelude.{◌++◌, ◌+◌, ◌-◌, ◌%◌, ◌==◌, ◌&&◌, ℕ, zero, suc, Bool, true, false, List, [], length, take, drop}
use Rattle.std.specs.Prelude.{Result, Ok, Err, Option, Some, None, nat_lt, bytes_eq, if◌then◌else◌}
use Rattle.std.specs.Int.{w8, w16, w32, w64, to_be_bytes}
use Rattle.reports.specs.Fields.{◌>>=◌, bytes_at, number_at}
use Rattle.sha2.specs.Sha256.{sha256}
use Rattle.tape_core.specs.declared.entry.Entry.{Entry}
use Rattle.tape_frames.specs.declared.packet.Packet.{Packet}
use Rattle.tape_frames.specs.declared.packet.Packet.TheVariants.{Data}
use Rattle.tape_frames.specs.declared.packet_fault.PacketFault.{PacketFault}
use Rattle.tape_frames.specs.declared.version.Version.{Version}
use Rattle.tape_frames.specs.declared.version.Version.TheVariants.{One, Two}
use Rattle.tape_frames.specs.PacketEntries.{RowState, first_number}
use Rattle.tape_frames.specs.Kinds.{DATA}
use Rattle.tape_frames.specs.Limits.{ENTRIES_MOST, LONGEST_PACKET}
use Rattle.tape_frames.specs.Reading.{packet_of}
use Rattle.tape_frames.specs.Versions.{version_byte}
use Rattle.day_journal.specs.declared.group_fault.GroupFault.{GroupFault}
use Rattle.day_journal.specs.declared.group_fault.GroupFault.TheVariants.{Torn, Damaged}

-- ---- a packet after its length

-- whether this is a packet
abbrev pub is_packet : Result Packet PacketFault → Bool
is_packet (Ok q) = true
is_packet (Err fault) = false

-- whether a front of fewer bytes than this is a packet
unfoldable pub begins_with_packet : ℕ → List ℕ → Bool
begins_with_packet zero bytes = false
begins_with_packet (suc len) bytes = if is_packet (packet_of (take len bytes)) then true else begins_with_packet len bytes

-- the front of the packet of a session with the entries from this number on: version, kind, session and number
abbrev pub packet_front : ℕ → ℕ → List ℕ
packet_front session number =
    to_be_bytes w8 (version_byte Two) ++ (to_be_bytes w8 DATA ++ (to_be_bytes w64 session ++ to_be_bytes w32 number))

-- whether the bytes begin as that packet does, as far as they go
abbrev pub begins_next : ℕ → ℕ → List ℕ → Bool
begins_next session number bytes =
    let front = packet_front session number in bytes_eq (take (length front) bytes) (take (length bytes) front)

-- what is wrong if the bytes end before a packet does: it is torn, unless a whole packet is there, and so its length is wrong,
-- or it is not the next one, and so what is there is no length
abbrev pub tail_fault : ℕ → ℕ → List ℕ → GroupFault
tail_fault session number bytes =
    if begins_with_packet (length bytes + 1) bytes then Damaged else if begins_next session number bytes then Torn else Damaged

-- how many bytes the packet has whose length is at the front, if all its bytes are there and it is the next one of the session
-- with this number; 0 at the mark
unfoldable pub frame_length : ℕ → ℕ → List ℕ → Result ℕ GroupFault
frame_length session number bytes = do
  len ← number_at Torn w16 bytes
  if nat_lt LONGEST_PACKET len.0 then Err Damaged else if nat_lt (length len.1) len.0 then Err (tail_fault session number len.1) else Ok len.0

-- whether a version is the second
abbrev pub is_second : Version → Bool
is_second One = false
is_second Two = true

-- whether a packet of this session has the entries from this number on
abbrev pub is_next : ℕ → ℕ → ℕ → RowState → Bool
is_next session number own row = (own == session) && (is_second row.version && (first_number row.entries == number))

-- the entries of the next packet
abbrev pub next_row : ℕ → ℕ → Result Packet PacketFault → Result (List Entry) GroupFault
next_row session number (Ok (Data own row)) = if is_next session number own row then Ok row.entries else Err Damaged
next_row session number q = Err Damaged

-- ---- a group

-- a packet of this length, which only a full one may precede, and what is read next
abbrev pub packet_at : {X : Type 0} → (ℕ → ℕ → List Entry → List ℕ → Result X GroupFault) → ℕ → ℕ → List Entry → ℕ → List ℕ → Result X GroupFault
packet_at more session held es len bytes =
    if length es % ENTRIES_MOST == 0
    then (next_row session (held + length es + 1) (packet_of (take len (drop 2 bytes))) >>= λ row. more session held (es ++ row) (drop (2 + len) bytes))
    else Err Damaged

-- the entries of the packets up to the mark, after those of a journal and those that were read of the group, and what follows
-- the mark; no packet follows one that is not full
unfoldable pub packets_at : ℕ → ℕ → ℕ → List Entry → List ℕ → Result (List Entry × List ℕ) GroupFault
packets_at zero session held es bytes = Err Damaged
packets_at (suc fuel) session held es bytes = do
  len ← frame_length session (held + length es + 1) bytes
  if len == 0 then Ok (es, drop 2 bytes) else packet_at (packets_at fuel) session held es len bytes

-- whether a group's end has this number of entries and the digest of these bytes
abbrev pub is_end : List ℕ → List ℕ → ℕ → ℕ → List ℕ → Bool
is_end before body entries count digest = nat_lt 0 entries && ((count == entries) && bytes_eq digest (sha256 (before ++ body)))

-- what was read of a group: its entries, its digest, and the bytes after it
abbrev pub Read : Type 0
Read = List Entry × (List ℕ × List ℕ)

-- a group after this many entries and this digest
unfoldable pub group_at : ℕ → ℕ → List ℕ → List ℕ → Result Read GroupFault
group_at session held before bytes = do
  packets ← packets_at (length bytes) session held [] bytes
  count ← number_at Torn w32 packets.1
  digest ← bytes_at Torn 32 count.1
  if is_end before (take (length bytes - length count.1) bytes) (length packets.0) count.0 digest.0 then Ok (packets.0, (digest.0, digest.1)) else Err Damaged

-- how many entries the group at the front of bytes has by its own end, if the lengths of its packets lead there
unfoldable pub told_at : ℕ → List ℕ → Result ℕ GroupFault
told_at zero bytes = Err Damaged
told_at (suc fuel) bytes = do
  len ← number_at Damaged w16 bytes
  if len.0 == 0 then (number_at Damaged w32 len.1 >>= λ count. Ok count.0) else told_at fuel (drop len.0 len.1)

-- that number, if it can be read
abbrev pub told_count : List ℕ → Option ℕ
told_count bytes = told (told_at (length bytes) bytes)
  where
    told : Result ℕ GroupFault → Option ℕ
    told (Ok count) = Some count
    told (Err fault) = None
