-- The header of a packet's text is the packet's.
use Rattle.std.proofs.Common.{◌≡◌, ℕ, ◌+◌, ◌-◌, ◌^◌, ◌<◌, ◌++◌, List, [], None, Some, Result, Ok, Err, refl, sym, ap, ◌∙◌, append_assoc, append-nil, arith, lit<, ◌==◌, eq-eqb}
use Rattle.std.proofs.lemmas.Bool.{cond-true, cond-false, ne_eqb}
use Rattle.std.specs.Int.{w8, w32, w64, to_be_bytes}
use Rattle.std.specs.Prelude.{flat_map, length}
use Rattle.reports.specs.Lemmas.Fields.{number_reader, ok_is, wide8, wide32, wide64}
use Rattle.tape_frames.specs.PacketEntries.{first_number}
use Rattle.tape_frames.specs.Kinds.{DATA, BEAT, END}
use Rattle.tape_frames.specs.Lemmas.Versions.{number_most-within, version_byte-fits}
use Rattle.tape_frames.specs.Spelling.{IsPacket, Spells, entry_text, header_text, packet_text}
use Rattle.tape_frames.specs.Versions.{version_byte}
use Rattle.tape_frames.specs.declared.packet.Packet.{Packet}
use Rattle.tape_frames.specs.declared.packet.Packet.TheVariants.{Data, Beat, End}
use Rattle.tape_frames.specs.declared.packet_fault.PacketFault.{PacketFault}
use Rattle.tape_frames.specs.declared.packet_fault.PacketFault.TheVariants.{Short}
use Rattle.tape_frames.specs.declared.version.Version.{Version}
use Rattle.tape_frames.specs.Headers.{header_at, header_number_of, last_entry_of}
use Rattle.tape_frames.specs.declared.header.PacketHeader.{PacketHeader}

-- a spelled header is read
header_again : (version : Version) (kind session number count : ℕ) (bytes : List ℕ) → kind < 2 ^ 8 → session < 2 ^ 64 → number < 2 ^ 32 → count < 2 ^ 8
    → header_at (header_text version kind session number count ++ bytes) ≡ Ok (record { kind = kind; session = session; number = number; count = count }, bytes)
unfolding header_at
header_again version kind session number count bytes kind_fits session_fits number_fits count_fits =
    let v = to_be_bytes w8 (version_byte version) in
    let k = to_be_bytes w8 kind in
    let s = to_be_bytes w64 session in
    let n = to_be_bytes w32 number in
    let c = to_be_bytes w8 count in
    let regrouped : header_text version kind session number count ++ bytes ≡ v ++ (k ++ (s ++ (n ++ (c ++ bytes)))) = simp append_assoc in
    let first = (number_reader Short wide8).again (version_byte version) (k ++ (s ++ (n ++ (c ++ bytes)))) (version_byte-fits version) in
    let second = (number_reader Short wide8).again kind (s ++ (n ++ (c ++ bytes))) kind_fits in
    let third = (number_reader Short wide64).again session (n ++ (c ++ bytes)) session_fits in
    let fourth = (number_reader Short wide32).again number (c ++ bytes) number_fits in
    let fifth = (number_reader Short wide8).again count bytes count_fits in
    ap header_at regrouped ∙ rw (first, second, third, fourth, fifth) refl

-- the kind of a packet, its session, its number and its count
abbrev pub header_of : Packet → PacketHeader
header_of (Data session row) = record { kind = DATA; session = session; number = first_number row.entries; count = length row.entries }
header_of (Beat session last) = record { kind = BEAT; session = session; number = last.count; count = 0 }
header_of (End session count) = record { kind = END; session = session; number = count.count; count = 0 }

-- the header of a packet's text
of_text : (packet : Packet) → IsPacket packet → (rest : List ℕ) × (header_at (packet_text packet) ≡ Ok (header_of packet, rest))
of_text (Data session row) valid =
    let es = row.entries in
    let is = valid.1.0 in (
      flat_map entry_text es,
      header_again row.version DATA session (first_number es) (length es) (flat_map entry_text es) (lit< tt) valid.0 (omega (arith, is.within))
          (omega (arith, is.few)),
    )
of_text (Beat session last) valid = (
  [],
  ap header_at (sym (append-nil _))
      ∙ header_again last.version BEAT session last.count 0 [] (lit< tt) valid.0 (omega (arith, valid.1, number_most-within last.version)) (lit< tt),
)
of_text (End session count) valid = (
  [],
  ap header_at (sym (append-nil _))
      ∙ header_again count.version END session count.count 0 [] (lit< tt) valid.0 (omega (arith, valid.1, number_most-within count.version)) (lit< tt),
)

-- a header that was read is the one that was spelled
same_header : (r : Result (PacketHeader × List ℕ) PacketFault) (a b : PacketHeader) (x y : List ℕ) → r ≡ Ok (a, x) → r ≡ Ok (b, y) → a ≡ b
same_header r a b x y one other = ap (λ (p : PacketHeader × List ℕ). p.0) (ok_is Short (a, x) (b, y) (sym one ∙ other))

-- a spelled header is not too short
not_short : (r : Result (PacketHeader × List ℕ) PacketFault) (fault : PacketFault) (a : PacketHeader) (x : List ℕ) → r ≡ Err fault → r ≡ Ok (a, x) → ⊥
not_short r fault a x one other = absurd cc

-- the header that is read from a packet's bytes is the packet's
pub read_is : (bytes : List ℕ) (packet : Packet) (header : PacketHeader) (rest : List ℕ) → Spells bytes packet → header_at bytes ≡ Ok (header, rest)
    → header ≡ header_of packet
read_is bytes packet header rest spelled read =
    let text = of_text packet spelled.0 in
    same_header (header_at bytes) header (header_of packet) rest text.0 read (ap header_at spelled.1 ∙ text.1)

-- and some header is read
pub read_some : (bytes : List ℕ) (packet : Packet) (fault : PacketFault) → Spells bytes packet → header_at bytes ≡ Err fault → ⊥
read_some bytes packet fault spelled read =
    let text = of_text packet spelled.0 in
    not_short (header_at bytes) fault (header_of packet) text.0 read (ap header_at spelled.1 ∙ text.1)

-- the number of a packet's header
pub number_is : (packet : Packet) → (header_of packet).number ≡ header_number_of packet
number_is (Data session row) = refl
number_is (Beat session last) = refl
number_is (End session count) = refl

-- another kind brings no entries
pub brings_none : (session : ℕ) (packet : Packet) → ((header_of packet).kind ≡ DATA → ⊥) → last_entry_of session packet ≡ None
brings_none session (Data other row) other_kind = absurd (other_kind refl)
brings_none session (Beat other last) other_kind = refl
brings_none session (End other count) other_kind = refl

-- another session brings none either
pub brings_other : (session : ℕ) (packet : Packet) → ((header_of packet).session ≡ session → ⊥) → last_entry_of session packet ≡ None
brings_other session (Data other row) other_session = cond-false (other == session) _ _ (ne_eqb _ _ other_session)
brings_other session (Beat other last) other_session = refl
brings_other session (End other count) other_session = refl

-- a packet of the session with entries brings as many as its header says
pub brings_last : (session : ℕ) (packet : Packet) → (header_of packet).kind ≡ DATA → (header_of packet).session ≡ session
    → last_entry_of session packet ≡ Some ((header_of packet).number + (header_of packet).count - 1)
brings_last session (Data other row) is same = cond-true (other == session) _ _ (eq-eqb _ _ same)
brings_last session (Beat other last) is same = absurd (omega arith)
brings_last session (End other count) is same = absurd (omega arith)
