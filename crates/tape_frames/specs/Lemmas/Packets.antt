-- The two laws of packets: the bytes spell the packet that is read from them, and each spelled packet is read again.
use Rattle.std.proofs.Common.{◌≡◌, ℕ, ◌+◌, ◌^◌, ◌<◌, ◌≤◌, true, false, cond, ltb, List, [], ◌∷◌, ◌++◌, ◌==◌, length, lit<}
use Rattle.std.proofs.Common.{length-append, append-nil, Option, Some, None, Result, Ok, Err, refl, sym, ap, subst, ◌∙◌, append_assoc, arith, inl, inr}
use Rattle.std.specs.Option.{ok_or}
use Rattle.std.specs.Prelude.{All, IfOk, IfSome, ◌&&◌, nat_le, flat_map}
use Rattle.std.specs.Int.{w8, w32, w64, to_be_bytes}
use Rattle.std.proofs.lemmas.Bool.{and_parts, cases_Bool, eqb-true, le-leb, le-ltb, leb-true}
use Rattle.std.proofs.lemmas.List.{nil_from_length}
use Rattle.std.proofs.lemmas.List.Elements.{All-cons, All-head, All-nil, All-tail}
use Rattle.reports.specs.Fields.{◌>>=◌, number_at}
use Rattle.reports.specs.Lemmas.Fields.{AreBytes, IsReader, Takes, Takes-then, bind_ok, chosen, first_taken}
use Rattle.reports.specs.Lemmas.Fields.{number_reader, ok_is, one_value, passed, picked, wide8, wide32, wide64}
use Rattle.scratch_fold.specs.Places.{HasPlacesUpTo, IsPlacedUpTo}
use Rattle.scratch_fold.specs.declared.summary.Mark.{Mark}
use Rattle.scratch_fold.specs.declared.summary.Summary.{Summary}
use Rattle.tape_core.specs.declared.entry.Entry.{Entry}
use Rattle.tape_frames.specs.declared.packet.Packet.{Packet}
use Rattle.tape_frames.specs.declared.packet.Packet.TheVariants.{Data, Beat, End}
use Rattle.tape_frames.specs.declared.packet_fault.PacketFault.{PacketFault}
use Rattle.tape_frames.specs.declared.packet_fault.PacketFault.TheVariants.{Short, BadVersion, BadCount, Trailing}
use Rattle.tape_frames.specs.Kinds.{DATA, BEAT, END}
use Rattle.tape_frames.specs.declared.version.Version.{Version}
use Rattle.tape_frames.specs.declared.version.Version.TheVariants.{One, Two}
use Rattle.tape_frames.specs.Limits.{HEADER_LENGTH}
use Rattle.tape_types.specs.Ranges.{TAPE_MOST}
use Rattle.tape_frames.specs.PacketEntries.{Carries, CountState, FitsIn, IsNumberedFrom, IsRow, RowFits, RowState, first_number}
use Rattle.tape_frames.specs.Versions.{entries_most, number_most, version_byte, version_of_byte}
use Rattle.tape_frames.specs.Lemmas.Versions.{entries_most-within, number_most-within, version_byte-fits}
use Rattle.tape_frames.specs.Spelling.{IsEntry, IsMark, IsPacket, IsSummary, OnePacketSpelling, Spells, entry_text, header_text, packet_text}
use Rattle.tape_frames.specs.Reading.{TakesAll, packet_content, count_alone, entries_at, entry_row_at, framed_at, packet_at, packet_of, row_at, version_at}
use Rattle.tape_frames.specs.Lemmas.Entries.{AreEntries, entries_reader}

-- ---- rows

-- entries that are spelled carry what their kinds do
all_carry : (version : Version) (es : List Entry) → All (IsEntry version) es → All Carries es
all_carry version [] all = All-nil Carries
all_carry version (e ∷ es) all =
    let first : IsEntry version e = All-head (IsEntry version) e es all in
    All-cons Carries e es first.carries (all_carry version es (All-tail (IsEntry version) e es all))

-- the place of a spelled mark is one that the version can state
figure-placed : (version : Version) (figure : Option Mark) → IfSome figure (IsMark version) → IsPlacedUpTo (number_most version) figure
figure-placed version None is = tt
figure-placed version (Some m) is = is.place.1

-- and so have all marks of a summary
summary-placed : (version : Version) (after : Option Summary) → IfSome after (IsSummary version) → IfSome after (HasPlacesUpTo (number_most version))
summary-placed version None is = tt
summary-placed version (Some z) is = record {
  opening = figure-placed version z.opening is.opening;
  high = figure-placed version z.high is.high;
  low = figure-placed version z.low is.low;
  last = figure-placed version z.last is.last;
}

-- so a packet of the version can have an entry that is spelled
entry-fits : (version : Version) (e : Entry) → IsEntry version e → FitsIn version e
entry-fits version e is = record { number = is.number; places = summary-placed version e.after is.after }

-- and entries that are spelled
all_fit : (version : Version) (es : List Entry) → All (IsEntry version) es → All (FitsIn version) es
all_fit version [] all = All-nil (FitsIn version)
all_fit version (e ∷ es) all =
    All-cons (FitsIn version) e es (entry-fits version e (All-head (IsEntry version) e es all))
    (all_fit version es (All-tail (IsEntry version) e es all))

-- the last of numbered entries is on a tape
last_within : (version : Version) (number : ℕ) (es : List Entry) → IsNumberedFrom number es → All (IsEntry version) es → 1 ≤ length es
    → number + length es ≤ TAPE_MOST + 1
last_within version number [] numbered all some = absurd (omega (arith, some))
last_within version number (e ∷ []) numbered all some =
    let first : IsEntry version e = All-head (IsEntry version) e [] all in
    omega (arith, numbered.0, first.number.1, number_most-within version)
last_within version number (e ∷ f ∷ es) numbered all some =
    let rest = last_within version (number + 1) (f ∷ es) numbered.1 (All-tail (IsEntry version) e (f ∷ es) all) (omega arith) in
    omega (arith, rest)

-- the first of some entries has the number that they begin with
first_is : (number : ℕ) (es : List Entry) → IsNumberedFrom number es → 1 ≤ length es → first_number es ≡ number
first_is number [] numbered some = absurd (omega (arith, some))
first_is number (e ∷ es) numbered some = numbered.0

-- the first of some entries is on a tape
first_positive : (version : Version) (es : List Entry) → All (IsEntry version) es → 1 ≤ length es → 1 ≤ first_number es
first_positive version [] all some = absurd (omega (arith, some))
first_positive version (e ∷ es) all some = let first : IsEntry version e = All-head (IsEntry version) e es all in first.number.0

-- entries that were read make a row
row_of : (version : Version) (count number : ℕ) (es : List Entry) → AreEntries version count number es → 1 ≤ count → count ≤ entries_most version → IsRow es
row_of version count number es are some few =
    let len : 1 ≤ length es = omega (arith, are.0, some) in
    let is : first_number es ≡ number = first_is number es are.1.0 len in
    record {
      some = len;
      few = omega (arith, are.0, few, (entries_most-within version).1);
      consecutive = subst (λ (n : ℕ). IsNumberedFrom n es) (sym is) are.1.0;
      positive = first_positive version es are.1.1 len;
      within = omega (arith, is, last_within version number es are.1.0 are.1.1 len);
      carries = all_carry version es are.1.1;
    }

-- that a packet of the version can have
row_fits : (version : Version) (count number : ℕ) (es : List Entry) → AreEntries version count number es → count ≤ entries_most version → RowFits version es
row_fits version count number es are few = record {
  few = omega (arith, are.0, few);
  each = all_fit version es are.1.1;
}

-- ---- what follows a header

-- what was read after a header is the packet's own
pub record IsPacketContent (header bytes : List ℕ) (x : Packet × List ℕ) : Type 0 where
  pub body : List ℕ
  pub taken : Takes bytes body x.1
  pub text : header ++ body ≡ packet_text x.0
  pub valid : IsPacket x.0

-- a row that is read has the version, and its entries are read
row_taken : (version : Version) (count number : ℕ) (bytes : List ℕ) (x : RowState × List ℕ) → entry_row_at version count number bytes ≡ Ok x
    → (x.0.version ≡ version) × (entries_at version count number bytes ≡ Ok (x.0.entries, x.1))
unfolding entry_row_at
row_taken version count number bytes x e =
    let b = bind_ok (entries_at version count number bytes) _ x e in
    let made : RowState × List ℕ = (record { version = version; entries = b.0.0 }, b.0.1) in
    subst (λ (y : RowState × List ℕ). (y.0.version ≡ version) × (entries_at version count number bytes ≡ Ok (y.0.entries, y.1)))
    {x = made} (ok_is Short made x b.2) (refl, b.1)

-- the bytes spell a data packet's entries that are read from them
data_takes : (version : Version) (session number count : ℕ) (bytes : List ℕ) (x : Packet × List ℕ) → AreBytes bytes → session < 2 ^ 64
    → (row_at version number count bytes >>= λ row. Ok (Data session row.0, row.1)) ≡ Ok x
    → IsPacketContent (header_text version DATA session number count) bytes x
unfolding row_at
data_takes version session number count bytes x fits session_fits e =
    let b = bind_ok (row_at version number count bytes) (λ row. Ok (Data session row.0, row.1)) x e in
    let good = picked (nat_le 1 count && nat_le count (entries_most version)) BadCount (entry_row_at version count number bytes) b.0 b.1 in
    let range = and_parts (nat_le 1 count) (nat_le count (entries_most version)) good.0 in
    let some : 1 ≤ count = leb-true 1 count range.0 in
    let few : count ≤ entries_most version = leb-true count (entries_most version) range.1 in
    let row = row_taken version count number bytes b.0 good.1 in
    let es = b.0.0.entries in
    let read = (entries_reader version count number).takes bytes (es, b.0.1) fits row.1 in
    let first : number ≡ first_number es = sym (first_is number es read.1.1.0 (omega (arith, some, read.1.0))) in
    let made : Packet × List ℕ = (Data session b.0.0, b.0.1) in
    subst (IsPacketContent (header_text version DATA session number count) bytes) {x = made} (ok_is Short made x b.2) (record {
      body = flat_map entry_text es;
      taken = read.0;
      text = ap (λ (n : ℕ). header_text version DATA session n count ++ flat_map entry_text es) first
          ∙ ap (λ (n : ℕ). header_text version DATA session (first_number es) n ++ flat_map entry_text es) (sym read.1.0)
          ∙ ap (λ (v : Version). header_text v DATA session (first_number es) (length es) ++ flat_map entry_text es) (sym row.0);
      valid = (
        session_fits,
        (
          row_of version count number es read.1 some few,
          subst (λ (v : Version). RowFits v es) (sym row.0) (row_fits version count number es read.1 few),
          subst (λ (v : Version). All (IsEntry v) es) (sym row.0) read.1.1.1,
        ),
      );
    })

-- the number of a packet without entries
count_taken : (version : Version) (number count : ℕ) (last : CountState) → count_alone version number count ≡ Ok last
    → (count ≡ 0) × ((number ≤ number_most version) × (record { version = version; count = number } ≡ last))
count_taken version number count last e =
    let good = chosen ((count == 0) && nat_le number (number_most version)) BadCount (record { version = version; count = number }) last e in
    let both = and_parts (count == 0) (nat_le number (number_most version)) good.0 in
    (eqb-true count 0 both.0, (leb-true number (number_most version) both.1, good.1))

-- the bytes spell the beat or end that is read from them
alone_takes : (kind : ℕ) (make : ℕ → CountState → Packet)
    → ((session : ℕ) (c : CountState) → packet_text (make session c) ≡ header_text c.version kind session c.count 0)
    → ((session : ℕ) (c : CountState) → session < 2 ^ 64 → c.count ≤ number_most c.version → IsPacket (make session c))
    → (version : Version) (session number count : ℕ) (bytes : List ℕ) (x : Packet × List ℕ) → AreBytes bytes → session < 2 ^ 64
    → (count_alone version number count >>= λ last. Ok (make session last, bytes)) ≡ Ok x
    → IsPacketContent (header_text version kind session number count) bytes x
alone_takes kind make text valid version session number count bytes x fits session_fits e =
    let b = bind_ok (count_alone version number count) (λ last. Ok (make session last, bytes)) x e in
    let parts = count_taken version number count b.0 b.1 in
    let is : CountState = record { version = version; count = number } in
    let made : Packet × List ℕ = (make session b.0, bytes) in
    let bare : List ℕ = header_text version kind session number count in
    subst (IsPacketContent bare bytes) {x = made} (ok_is Short made x b.2) (record {
      body = [];
      taken = record { parts = refl; rest_fits = fits };
      text = append-nil bare
          ∙ ap (λ (n : ℕ). header_text version kind session number n) parts.0
          ∙ sym (text session is)
          ∙ ap (λ (c : CountState). packet_text (make session c)) parts.1.1;
      valid = subst (λ (c : CountState). IsPacket (make session c)) parts.1.1 (valid session is session_fits parts.1.0);
    })

-- the bytes spell what is read after a header
content_takes : (version : Version) (kind session number count : ℕ) (bytes : List ℕ) (x : Packet × List ℕ) → AreBytes bytes → session < 2 ^ 64
    → packet_content version kind session number count bytes ≡ Ok x → IsPacketContent (header_text version kind session number count) bytes x
unfolding packet_content
content_takes version kind session number count bytes x fits session_fits e =
    elim (cases_Bool (kind == DATA)) [
      | inl is_data ↦
          subst (λ (k : ℕ). IsPacketContent (header_text version k session number count) bytes x) (sym (eqb-true kind DATA is_data))
          (data_takes version session number count bytes x fits session_fits (rw is_data at e))
      | inr not_data ↦ elim (cases_Bool (kind == BEAT)) [
        | inl is_beat ↦
            subst (λ (k : ℕ). IsPacketContent (header_text version k session number count) bytes x) (sym (eqb-true kind BEAT is_beat))
            (alone_takes BEAT Beat (λ s c. refl) (λ s c in_width in_range. (in_width, in_range)) version session number count bytes x fits session_fits
            (rw (not_data, is_beat) at e))
        | inr not_beat ↦ elim (cases_Bool (kind == END)) [
          | inl is_end ↦
              subst (λ (k : ℕ). IsPacketContent (header_text version k session number count) bytes x) (sym (eqb-true kind END is_end))
              (alone_takes END End (λ s c. refl) (λ s c in_width in_range. (in_width, in_range)) version session number count bytes x fits session_fits
              (rw (not_data, not_beat, is_end) at e))
          | inr not_end ↦ absurd (cc (rw (not_data, not_beat, not_end) at e))
        ]
      ]
    ]

-- ---- the header

-- a byte is read from its spelling alone
byte_reader : IsReader (number_at Short w8) (to_be_bytes w8) (λ n. n < 2 ^ 8)
byte_reader = number_reader Short wide8

-- a byte that is read as a version is its byte
byte_is : (byte : ℕ) (version : Version) → ok_or (version_of_byte byte) BadVersion ≡ Ok version → byte ≡ version_byte version
byte_is byte version e = elim (cases_Bool (byte == version_byte One)) [
  | inl one ↦ eqb-true byte (version_byte One) one ∙ ap version_byte (ok_is BadVersion One version (rw one at e))
  | inr not_one ↦ elim (cases_Bool (byte == version_byte Two)) [
    | inl two ↦ eqb-true byte (version_byte Two) two ∙ ap version_byte (ok_is BadVersion Two version (rw (not_one, two) at e))
    | inr not_two ↦ absurd (cc (rw (not_one, not_two) at e))
  ]
]

-- a version's byte is read as the version
byte_again : (version : Version) → ok_or (version_of_byte (version_byte version)) BadVersion ≡ Ok version
byte_again One = refl
byte_again Two = refl

-- the version's text
abbrev version_text : Version → List ℕ
version_text version = to_be_bytes w8 (version_byte version)

-- the version is read from its spelling alone
version_reader : IsReader version_at version_text (λ version. Unit {0})
unfolding version_at
version_reader = record {
  takes = λ bytes x fits e.
      let a = first_taken byte_reader bytes _ x fits e in
      let b = bind_ok (ok_or (version_of_byte a.0.0) BadVersion) (λ version. Ok (version, a.0.1)) x a.3 in
      let made : Version × List ℕ = (b.0, a.0.1) in
      let text : Takes bytes (version_text b.0) a.0.1 = subst (λ (n : ℕ). Takes bytes (to_be_bytes w8 n) a.0.1) (byte_is a.0.0 b.0 b.1) a.1 in
      subst (λ (y : Version × List ℕ). Takes bytes (version_text y.0) y.1 × Unit {0}) {x = made} (ok_is Short made x b.2) (text, tt);
  again = λ version rest fits.
      let read = byte_reader.again (version_byte version) rest (version_byte-fits version) in
      rw (read, byte_again version) refl;
}

-- the number is read from its spelling alone
number_reader_32 : IsReader (number_at Short w32) (to_be_bytes w32) (λ n. n < 2 ^ 32)
number_reader_32 = number_reader Short wide32

-- the bytes spell a packet that is read and whose header is complete
framed_takes : (bytes : List ℕ) (x : Packet × List ℕ) → AreBytes bytes → framed_at bytes ≡ Ok x → Takes bytes (packet_text x.0) x.1 × IsPacket x.0
unfolding framed_at
framed_takes bytes x fits e =
    let v = first_taken version_reader bytes _ x fits e in
    let k = first_taken byte_reader v.0.1 _ x v.1.rest_fits v.3 in
    let s = first_taken (number_reader Short wide64) k.0.1 _ x k.1.rest_fits k.3 in
    let n = first_taken number_reader_32 s.0.1 _ x s.1.rest_fits s.3 in
    let c = first_taken byte_reader n.0.1 _ x n.1.rest_fits n.3 in
    let content = content_takes v.0.0 k.0.0 s.0.0 n.0.0 c.0.0 c.0.1 x c.1.rest_fits s.2 c.3 in
    let header : Takes bytes (header_text v.0.0 k.0.0 s.0.0 n.0.0 c.0.0) c.0.1 = Takes-then v.1 (Takes-then k.1 (Takes-then s.1 (Takes-then n.1 c.1))) in
    (subst (λ (t : List ℕ). Takes bytes t x.1) content.text (Takes-then header content.taken), content.valid)

-- a header that is spelled is read again, and then what follows it
header_again : (version : Version) (kind session number count : ℕ) (bytes : List ℕ) → kind < 2 ^ 8 → session < 2 ^ 64 → number < 2 ^ 32 → count < 2 ^ 8
    → framed_at (header_text version kind session number count ++ bytes) ≡ packet_content version kind session number count bytes
unfolding framed_at
header_again version kind session number count bytes kind_fits session_fits number_fits count_fits =
    let v = version_text version in
    let k = to_be_bytes w8 kind in
    let s = to_be_bytes w64 session in
    let n = to_be_bytes w32 number in
    let c = to_be_bytes w8 count in
    let regrouped : header_text version kind session number count ++ bytes ≡ v ++ (k ++ (s ++ (n ++ (c ++ bytes)))) = simp append_assoc in
    let first = version_reader.again version (k ++ (s ++ (n ++ (c ++ bytes)))) tt in
    let second = byte_reader.again kind (s ++ (n ++ (c ++ bytes))) kind_fits in
    let third = (number_reader Short wide64).again session (n ++ (c ++ bytes)) session_fits in
    let fourth = number_reader_32.again number (c ++ bytes) number_fits in
    let fifth = byte_reader.again count bytes count_fits in
    ap framed_at regrouped ∙ rw (first, second, third, fourth, fifth) refl

-- ---- whole packets

-- what is spelled after a header is read again
data_again : (session : ℕ) (row : RowState) (rest : List ℕ) → IsRow row.entries → RowFits row.version row.entries
    → All (IsEntry row.version) row.entries
    → packet_content row.version DATA session (first_number row.entries) (length row.entries) (flat_map entry_text row.entries ++ rest)
    ≡ Ok (Data session row, rest)
unfolding packet_content row_at entry_row_at
data_again session row rest is fits all =
    let es = row.entries in
    let most = entries_most row.version in
    let some : nat_le 1 (length es) ≡ true = le-leb 1 (length es) is.some in
    let few : nat_le (length es) most ≡ true = le-leb (length es) most fits.few in
    rw (some, few, (entries_reader row.version (length es) (first_number es)).again es rest (refl, (is.consecutive, all))) refl

-- the number of a packet without entries is read again
alone_again : (c : CountState) → c.count ≤ number_most c.version → count_alone c.version c.count 0 ≡ Ok c
alone_again c in_range = rw (le-leb c.count (number_most c.version) in_range) refl

-- a packet that is spelled is read again after its header
framed_again : (q : Packet) (rest : List ℕ) → IsPacket q → framed_at (packet_text q ++ rest) ≡ Ok (q, rest)
unfolding packet_content
framed_again (Data session row) rest valid =
    let es = row.entries in
    let is : IsRow es = valid.1.0 in
    let number : first_number es < 2 ^ 32 = omega (arith, is.within) in
    let count : length es < 2 ^ 8 = omega (arith, is.few) in
    let header = header_text row.version DATA session (first_number es) (length es) in
    ap framed_at (append_assoc header (flat_map entry_text es) rest)
    ∙ header_again row.version DATA session (first_number es) (length es) (flat_map entry_text es ++ rest) (lit< tt) valid.0 number count
    ∙ data_again session row rest is valid.1.1 valid.1.2
framed_again (Beat session last) rest valid =
    header_again last.version BEAT session last.count 0 rest (lit< tt) valid.0 (omega (arith, valid.1, number_most-within last.version)) (lit< tt)
    ∙ rw (alone_again last valid.1) refl
framed_again (End session count) rest valid =
    header_again count.version END session count.count 0 rest (lit< tt) valid.0 (omega (arith, valid.1, number_most-within count.version)) (lit< tt)
    ∙ rw (alone_again count valid.1) refl

-- a packet has at least a header
pub length-packet_text : (q : Packet) → HEADER_LENGTH ≤ length (packet_text q)
length-packet_text (Data session row) =
    let es = row.entries in
    omega (arith, length-append (header_text row.version DATA session (first_number es) (length es)) (flat_map entry_text es))
length-packet_text (Beat session last) = omega arith
length-packet_text (End session count) = omega arith

-- a packet at the front of bytes
packet_reader : IsReader packet_at packet_text IsPacket
unfolding packet_at
packet_reader = record {
  takes = λ bytes x fits e. let went = passed (ltb (length bytes) HEADER_LENGTH) Short (framed_at bytes) x e in framed_takes bytes x fits went.1;
  again = λ q rest valid.
      let long : ltb (length (packet_text q ++ rest)) HEADER_LENGTH ≡ false =
      le-ltb _ _ (omega (arith, length-append (packet_text q) rest, length-packet_text q)) in
      rw long (framed_again q rest valid);
}

-- the bytes spell the packet that is read from them
packet_takes : (bytes : List ℕ) (q : Packet) → AreBytes bytes → packet_of bytes ≡ Ok q → Spells bytes q
unfolding packet_of
packet_takes bytes q fits e =
    let b = bind_ok (packet_at bytes) (λ packet. cond (length packet.1 == 0) (Ok packet.0) (Err Trailing)) q e in
    let read = packet_reader.takes bytes b.0 fits b.1 in
    let last = chosen (length b.0.1 == 0) Trailing b.0.0 q b.2 in
    let empty : b.0.1 ≡ [] = nil_from_length b.0.1 (eqb-true (length b.0.1) 0 last.0) in
    let text : bytes ≡ packet_text b.0.0 = read.0.parts ∙ ap (λ (t : List ℕ). packet_text b.0.0 ++ t) empty ∙ append-nil (packet_text b.0.0) in
    subst (Spells bytes) last.1 (read.1, text)

-- each spelled packet is read again
pub packet_again : (q : Packet) → IsPacket q → packet_of (packet_text q) ≡ Ok q
unfolding packet_of
packet_again q valid =
    let read : packet_at (packet_text q) ≡ Ok (q, []) = ap packet_at (sym (append-nil (packet_text q))) ∙ packet_reader.again q [] valid in
    rw read refl

-- a spelling with anything after it has too many bytes
pub packet_takes_all : TakesAll
unfolding packet_of
packet_takes_all q text rest spells some =
    let read : packet_at (packet_text q ++ rest) ≡ Ok (q, rest) = packet_reader.again q rest spells.0 in
    let more : (length rest == 0) ≡ false = elim (cases_Bool (length rest == 0)) [
      | inl none ↦ absurd (omega (arith, eqb-true (length rest) 0 none, some))
      | inr some_left ↦ some_left
    ] in
    ap (λ (t : List ℕ). packet_of (t ++ rest)) spells.1 ∙ rw (read, more) refl

-- no spelling of a packet begins another
pub one_packet_spelling : OnePacketSpelling
one_packet_spelling a b text_a text_b x y spells_a spells_b same =
    let spelled : packet_text a ++ x ≡ packet_text b ++ y =
    ap (λ (t : List ℕ). t ++ x) (sym spells_a.1) ∙ same ∙ ap (λ (t : List ℕ). t ++ y) spells_b.1 in
    let one = one_value packet_reader a b x y spells_a.0 spells_b.0 spelled in
    (one, spells_a.1 ∙ ap packet_text one ∙ sym spells_b.1)

-- the bytes spell the packet that a reader returned
pub packet_of-Ok : (bytes : List ℕ) (r : Result Packet PacketFault) → AreBytes bytes → r ≡ packet_of bytes → IfOk r (λ q. Spells bytes q)
packet_of-Ok bytes (Ok q) fits read = packet_takes bytes q fits (sym read)
packet_of-Ok bytes (Err e) fits read = tt
