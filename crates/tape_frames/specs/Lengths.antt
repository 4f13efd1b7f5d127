-- How long the spellings are.
use Rattle.std.specs.Prelude.{◌≡◌, ◌≤◌, ◌+◌, ℕ, length}
use Rattle.reports.specs.Kinds.{REPORT_LENGTH, CANCEL_LENGTH, REINSTATEMENT_LENGTH}
use Rattle.reports.specs.declared.message.Message.{Message}
use Rattle.reports.specs.declared.message.Message.TheVariants.{Report, Cancel, Correct, Reinstate}
use Rattle.tape_core.specs.declared.entry.Entry.{Entry}
use Rattle.tape_frames.specs.declared.packet.Packet.{Packet}
use Rattle.tape_frames.specs.declared.request.Request.{Request}
use Rattle.tape_frames.specs.declared.version.Version.{Version}
use Rattle.tape_frames.specs.Packets.{version_of}
use Rattle.tape_frames.specs.Versions.{longest_packet}
use Rattle.tape_frames.specs.Limits.{HEADER_LENGTH, LONGEST_ENTRY, REQUEST_LENGTH, SUMMARY_LENGTH}
use Rattle.tape_frames.specs.Requests.{request_text}
use Rattle.tape_frames.specs.Spelling.{IsEntry, IsPacket, entry_text, packet_text}

-- how many bytes an entry of this message has: its number, the message with its length, and the summary that each kind but a report carries
abbrev pub entry_length : Message → ℕ
entry_length (Report header content) = 4 + (2 + REPORT_LENGTH)
entry_length (Cancel header target) = 4 + (2 + CANCEL_LENGTH) + SUMMARY_LENGTH
entry_length (Correct header target content) = LONGEST_ENTRY
entry_length (Reinstate header target) = 4 + (2 + REINSTATEMENT_LENGTH) + SUMMARY_LENGTH

-- each entry has as many bytes as its kind needs
abbrev pub EntryLengths : Type 0
EntryLengths = (version : Version) (e : Entry) → IsEntry version e → length (entry_text e) ≡ entry_length e.message

-- each packet has at least a header, and no packet is longer than the longest of its version
abbrev pub PacketLengths : Type 0
PacketLengths = (q : Packet) → IsPacket q → (HEADER_LENGTH ≤ length (packet_text q)) × (length (packet_text q) ≤ longest_packet (version_of q))

-- all requests have the same length
abbrev pub RequestLengths : Type 0
RequestLengths = (r : Request) → length (request_text r) ≡ REQUEST_LENGTH
