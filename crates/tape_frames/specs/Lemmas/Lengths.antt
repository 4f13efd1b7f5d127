-- The proofs of how long the spellings are.
use Rattle.std.proofs.Common.{◌≡◌, ℕ, ◌+◌, ◌*◌, ◌≤◌, List, [], ◌∷◌, ◌++◌, length, length-append, Option, Some, None, refl, sym, subst, arith}
use Rattle.std.specs.Prelude.{All, flat_map}
use Rattle.std.proofs.lemmas.List.Elements.{All-head, All-tail}
use Rattle.reports.specs.declared.message.Message.{Message}
use Rattle.reports.specs.declared.message.Message.TheVariants.{Report, Cancel, Correct, Reinstate}
use Rattle.reports.specs.Messages.{named_target}
use Rattle.reports.specs.Spelling.{kind_byte, spelling}
use Rattle.reports.specs.Lemmas.Messages.{body_length, length-spelling}
use Rattle.scratch_fold.specs.declared.summary.Summary.{Summary}
use Rattle.tape_core.specs.declared.entry.Entry.{Entry}
use Rattle.tape_frames.specs.declared.packet.Packet.TheVariants.{Data, Beat, End}
use Rattle.tape_frames.specs.Kinds.{DATA}
use Rattle.tape_frames.specs.declared.version.Version.{Version}
use Rattle.tape_frames.specs.Limits.{HEADER_LENGTH, SUMMARY_LENGTH, LONGEST_ENTRY}
use Rattle.tape_frames.specs.Lengths.{EntryLengths, PacketLengths, RequestLengths, entry_length}
use Rattle.tape_frames.specs.PacketEntries.{CarriesFor, RowState, first_number}
use Rattle.tape_frames.specs.Versions.{entries_most, longest_packet}
use Rattle.tape_frames.specs.Lemmas.Versions.{entries_most-within}
use Rattle.tape_frames.specs.Spelling as frames
use Rattle.tape_frames.specs.Spelling.{IsEntry, carried_text, entry_text, packet_text}
use Rattle.tape_frames.specs.Lemmas.Summaries.{length-summary_text}
use Rattle.tape_frames.specs.Lemmas.Packets.{length-packet_text}

-- ---- entries

-- an entry whose message names a target carries a summary
abbrev carried_length : Option ℕ → ℕ
carried_length None = 0
carried_length (Some target) = SUMMARY_LENGTH

-- what is carried is as long as the kind needs
length-carried_text : (named : Option ℕ) (after : Option Summary) → CarriesFor named after → length (carried_text after) ≡ carried_length named
length-carried_text None None carries = refl
length-carried_text None (Some z) carries = absurd (cc carries)
length-carried_text (Some n) None carries = absurd (cc carries)
length-carried_text (Some n) (Some z) carries = length-summary_text z

-- the three parts of an entry together
entry_sum : (m : Message) → 4 + (2 + body_length (kind_byte m) + carried_length (named_target m)) ≡ entry_length m
entry_sum (Report h c) = refl
entry_sum (Cancel h n) = refl
entry_sum (Correct h n c) = refl
entry_sum (Reinstate h n) = refl

-- each entry has as many bytes as its kind needs
pub entry_lengths : EntryLengths
entry_lengths version e is = omega (
  arith,
  length-append (spelling e.message) (carried_text e.after),
  length-spelling e.message is.message,
  length-carried_text (named_target e.message) e.after is.carries,
  entry_sum e.message,
)

-- no entry is longer than a correction
entry_at_most : (m : Message) → entry_length m ≤ LONGEST_ENTRY
entry_at_most (Report h c) = omega arith
entry_at_most (Cancel h n) = omega arith
entry_at_most (Correct h n c) = omega arith
entry_at_most (Reinstate h n) = omega arith

-- ---- packets

-- entries are no longer than as many corrections
length-entries : (version : Version) (es : List Entry) → All (IsEntry version) es → length (flat_map entry_text es) ≤ LONGEST_ENTRY * length es
length-entries version [] all = omega arith
length-entries version (e ∷ es) all =
    let first : IsEntry version e = All-head (IsEntry version) e es all in
    omega (
      arith,
      length-append (entry_text e) (flat_map entry_text es),
      entry_lengths version e first,
      entry_at_most e.message,
      length-entries version es (All-tail (IsEntry version) e es all),
    )

-- a data packet of so many entries is as long as that many corrections at most
data_length : (header text most : ℕ) → header ≡ HEADER_LENGTH → (count : ℕ) → text ≤ LONGEST_ENTRY * count → count ≤ most
    → header + text ≤ HEADER_LENGTH + most * LONGEST_ENTRY
data_length header text most is count short few = omega (arith, is, short, few)

-- a data packet of no more entries than a packet of the version has is no longer than the version's longest one, even if the
-- entries are those of another version
pub length-data_text : (version : Version) (session : ℕ) (row : RowState) → All (IsEntry version) row.entries → length row.entries ≤ entries_most row.version
    → length (packet_text (Data session row)) ≤ longest_packet row.version
length-data_text version session row all few =
    let es = row.entries in
    let header = frames.header_text row.version DATA session (first_number es) (length es) in
    let whole : length (header ++ flat_map entry_text es) ≡ length header + length (flat_map entry_text es) = length-append header (flat_map entry_text es) in
    subst (λ (n : ℕ). n ≤ longest_packet row.version) (sym whole)
    (data_length (length header) (length (flat_map entry_text es)) (entries_most row.version) refl (length es) (length-entries version es all) few)

-- each packet has at least a header, and no packet is longer than the longest of its version
pub packet_lengths : PacketLengths
packet_lengths (Data session row) is = (
  length-packet_text (Data session row),
  length-data_text row.version session row is.1.2 is.1.1.few,
)
packet_lengths (Beat session last) is = (length-packet_text (Beat session last), omega (arith, (entries_most-within last.version).0))
packet_lengths (End session count) is = (length-packet_text (End session count), omega (arith, (entries_most-within count.version).0))

-- all requests have the same length
pub request_lengths : RequestLengths
request_lengths r = omega arith
