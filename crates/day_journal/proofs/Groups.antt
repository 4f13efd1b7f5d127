-- Reads back a group, whole or cut.
use Rattle.std.proofs.Common.{◌≡◌, ℕ, zero, suc, ◌+◌, ◌-◌, ◌%◌, ◌<◌, ◌≤◌, ◌==◌, true, false, List, [], ◌∷◌, ◌++◌, length, take, drop}
use Rattle.std.proofs.Common.{Ok, Err, append-nil, append_assoc, refl, sym, ap, subst, ◌∙◌, arith, inl, inr}
use Rattle.std.specs.Prelude.{nat_lt, bytes_eq, flat_map}
use Rattle.std.specs.Int.{w8, w16, w32, to_be_bytes}
use Rattle.std.proofs.lemmas.Bool.{cases_lt, lt-ltb}
use Rattle.std.proofs.lemmas.Bool.Decides.{Decides-eqb}
use Rattle.std.proofs.lemmas.Slice.Eq.{bytes_eq-Decides}
use Rattle.std.proofs.lemmas.List.{length-append, length-take, length-drop, take-append-drop, take-append-le, take_at, drop_at}
use Rattle.reports.specs.Fields.{number_at}
use Rattle.reports.specs.Lemmas.Fields.{AreBytes, AreBytes-drop, AreBytes-take, number_reader, wide16, wide32}
use Rattle.sha2.proofs.Facts256.{length-sha256}
use Rattle.tape_core.specs.declared.entry.Entry.{Entry}
use Rattle.tape_frames.specs.PacketEntries.{IsNumberedFrom, first_number}
use Rattle.tape_frames.specs.Limits.{ENTRIES_MOST, HEADER_LENGTH, LONGEST_PACKET}
use Rattle.tape_frames.specs.Spelling.{IsPacket, entry_text, packet_text}
use Rattle.tape_frames.specs.Reading.{packet_of}
use Rattle.tape_frames.specs.Lemmas.Lengths.{packet_lengths}
use Rattle.tape_frames.specs.Lemmas.Numbers.{IsNumberedFrom-append}
use Rattle.tape_frames.specs.Lemmas.Packets.{packet_again}
use Rattle.day_journal.specs.declared.group_fault.GroupFault.TheVariants.{Torn}
use Rattle.day_journal.specs.Groups.{ArePackets, IsGroup, first_packet, frame_text, group_body, group_digest, group_text, packet_count, packets_text}
use Rattle.day_journal.specs.GroupReading.{group_at, is_end, next_row, packet_front, packets_at}
use Rattle.day_journal.proofs.Frames.{frame_again, frame_torn, length_torn}
use Rattle.day_journal.proofs.Lists.{bytes_there, short_bytes, short_number, take_past}

-- ---- one packet

-- the text of the first packet
abbrev first_text : ℕ → List Entry → List ℕ
first_text session es = packet_text (first_packet session es)

-- the first of some entries has the number that they begin with
first_is : (number : ℕ) (es : List Entry) → IsNumberedFrom number es → 1 ≤ length (take ENTRIES_MOST es) → first_number (take ENTRIES_MOST es) ≡ number
first_is number [] numbered some = absurd (omega (arith, some))
first_is number (e ∷ es) numbered some = numbered.0

-- what follows the front of the first packet: the number of its entries, and the entries
abbrev after_front : List Entry → List ℕ
after_front es = to_be_bytes w8 (length (take ENTRIES_MOST es)) ++ flat_map entry_text (take ENTRIES_MOST es)

-- the first packet begins as the next one does
first_begins : (session number : ℕ) (es : List Entry) → IsPacket (first_packet session es) → IsNumberedFrom number es
    → first_text session es ≡ packet_front session number ++ after_front es
first_begins session number es valid numbered =
    let own = first_number (take ENTRIES_MOST es) in
    let regrouped : first_text session es ≡ packet_front session own ++ after_front es = simp append_assoc in
    regrouped ∙ ap (λ (n : ℕ). packet_front session n ++ after_front es) (first_is number es numbered valid.1.0.some)

-- a packet is at most as long as packets may be
short_text : (session : ℕ) (es : List Entry) → IsPacket (first_packet session es)
    → (HEADER_LENGTH ≤ length (first_text session es)) × (length (first_text session es) ≤ LONGEST_PACKET)
short_text session es valid = packet_lengths (first_packet session es) valid

-- the first packet is the next one
row_again : (session number : ℕ) (es : List Entry) → IsPacket (first_packet session es) → IsNumberedFrom number es
    → next_row session number (packet_of (first_text session es)) ≡ Ok (take ENTRIES_MOST es)
row_again session number es valid numbered =
    let read = packet_again (first_packet session es) valid in
    let own : (session == session) ≡ true = (Decides-eqb session session).1 refl in
    let first : (first_number (take ENTRIES_MOST es) == number) ≡ true =
    (Decides-eqb (first_number (take ENTRIES_MOST es)) number).1 (first_is number es numbered valid.1.0.some) in
    rw (read, own, first) refl

-- one packet is read, and then what follows it is read
one_packet : (fuel session held : ℕ) (acc es : List Entry) (more : List ℕ) → IsPacket (first_packet session es)
    → length acc % ENTRIES_MOST ≡ 0 → IsNumberedFrom (held + length acc + 1) es
    → packets_at (suc fuel) session held acc (frame_text (first_text session es) ++ more)
    ≡ packets_at fuel session held (acc ++ take ENTRIES_MOST es) more
unfolding packets_at
one_packet fuel session held acc es more valid full numbered =
    let text = first_text session es in
    let short = short_text session es valid in
    let size = to_be_bytes w16 (length text) in
    let len = frame_again session (held + length acc + 1) text more short.1 in
    let some : (length text == 0) ≡ false = search (arith, short) in
    let whole : (length acc % ENTRIES_MOST == 0) ≡ true = (Decides-eqb (length acc % ENTRIES_MOST) 0).1 full in
    let regrouped : frame_text text ++ more ≡ size ++ (text ++ more) = append_assoc size text more in
    let behind : drop 2 (frame_text text ++ more) ≡ text ++ more = ap (λ (t : List ℕ). drop 2 t) regrouped ∙ drop_at size (text ++ more) 2 (wide16.len (length text)) in
    let body : take (length text) (drop 2 (frame_text text ++ more)) ≡ text =
    ap (λ (t : List ℕ). take (length text) t) behind ∙ take_at text more (length text) refl in
    let rest : drop (2 + length text) (frame_text text ++ more) ≡ more =
    drop_at (frame_text text) more (2 + length text) (omega (arith, length-append size text, wide16.len (length text))) in
    let row = row_again session (held + length acc + 1) es valid numbered in
    rw (len, some, whole, body, row, rest) refl

-- the mark ends the packets
mark_again : (fuel session held : ℕ) (acc : List Entry) (rest : List ℕ) → packets_at (suc fuel) session held acc (to_be_bytes w16 0 ++ rest) ≡ Ok (acc, rest)
unfolding packets_at
mark_again fuel session held acc rest = rw (frame_again session (held + length acc + 1) [] rest (omega arith)) refl

-- ---- the packets of a group

-- some packets carry some entries
some_left : (count session : ℕ) (es : List Entry) → ArePackets (suc count) session es → 1 ≤ length es
unfolding ArePackets
some_left count session es are = let row = are.0.1.0 in omega (arith, row.some, length-take ENTRIES_MOST es)

-- so a packet before others is full
full_before : (count session : ℕ) (acc es : List Entry) → length acc % ENTRIES_MOST ≡ 0 → ArePackets count session (drop ENTRIES_MOST es) → 1 ≤ count
    → length (acc ++ take ENTRIES_MOST es) % ENTRIES_MOST ≡ 0
full_before zero session acc es full are some = absurd (omega (arith, some))
full_before (suc count) session acc es full are some =
    let left = some_left count session (drop ENTRIES_MOST es) are in
    omega (arith, length-append acc (take ENTRIES_MOST es), length-take ENTRIES_MOST es, length-drop ENTRIES_MOST es, left, full)

-- the entries after a packet go on
numbered_after : (held : ℕ) (acc es : List Entry) → IsNumberedFrom (held + length acc + 1) es
    → IsNumberedFrom (held + length (acc ++ take ENTRIES_MOST es) + 1) (drop ENTRIES_MOST es)
numbered_after held acc es numbered =
    let front = take ENTRIES_MOST es in
    let whole : IsNumberedFrom (held + length acc + 1) (front ++ drop ENTRIES_MOST es) =
    subst (IsNumberedFrom (held + length acc + 1)) (sym (take-append-drop ENTRIES_MOST es)) numbered in
    let is : (held + length acc + 1) + length front ≡ held + length (acc ++ front) + 1 = omega (arith, length-append acc front) in
    subst (λ (n : ℕ). IsNumberedFrom n (drop ENTRIES_MOST es)) is (IsNumberedFrom-append (held + length acc + 1) front (drop ENTRIES_MOST es) whole).1

-- a packet and the others are the entries
joined : (acc es : List Entry) → (acc ++ take ENTRIES_MOST es) ++ drop ENTRIES_MOST es ≡ acc ++ es
joined acc es =
    append_assoc acc (take ENTRIES_MOST es) (drop ENTRIES_MOST es) ∙ ap (λ (xs : List Entry). acc ++ xs) (take-append-drop ENTRIES_MOST es)

-- packets that are written one after the other are read back
pub packets_again : (count fuel session held : ℕ) (acc es : List Entry) (rest : List ℕ) → count < fuel
    → (1 ≤ count → length acc % ENTRIES_MOST ≡ 0) → IsNumberedFrom (held + length acc + 1) es → ArePackets count session es
    → packets_at fuel session held acc (packets_text count session es ++ (to_be_bytes w16 0 ++ rest)) ≡ Ok (acc ++ es, rest)
unfolding packets_text ArePackets
packets_again count zero session held acc es rest below full numbered are = absurd (omega (arith, below))
packets_again zero (suc fuel) session held acc es rest below full numbered are =
    let all : acc ≡ acc ++ es = sym (append-nil acc) ∙ ap (λ (xs : List Entry). acc ++ xs) (sym are) in
    mark_again fuel session held acc rest ∙ ap (λ (xs : List Entry). Ok (xs, rest)) all
packets_again (suc count) (suc fuel) session held acc es rest below full numbered are =
    let others = packets_text count session (drop ENTRIES_MOST es) in
    let tail = to_be_bytes w16 0 ++ rest in
    let next = acc ++ take ENTRIES_MOST es in
    let whole = full (omega arith) in
    ap (packets_at (suc fuel) session held acc) (append_assoc (frame_text (first_text session es)) others tail)
    ∙ one_packet fuel session held acc es (others ++ tail) are.0 whole numbered
    ∙ packets_again count fuel session held next (drop ENTRIES_MOST es) rest (omega (arith, below)) (full_before count session acc es whole are.1)
    (numbered_after held acc es numbered) are.1
    ∙ ap (λ (xs : List Entry). Ok (xs, rest)) (joined acc es)

-- a packet has more bytes than its length
long_frame : (session : ℕ) (es : List Entry) → IsPacket (first_packet session es) → 3 ≤ length (frame_text (first_text session es))
long_frame session es valid =
    let text = first_text session es in
    omega (arith, length-append (to_be_bytes w16 (length text)) text, wide16.len (length text), (short_text session es valid).0)

-- packets that are cut, even within the mark after them, are torn
pub packets_torn : (count fuel session held : ℕ) (acc es : List Entry) (rest : List ℕ) (len : ℕ) → 1 ≤ fuel → len ≤ fuel
    → (1 ≤ count → length acc % ENTRIES_MOST ≡ 0) → IsNumberedFrom (held + length acc + 1) es → ArePackets count session es
    → AreBytes (packets_text count session es) → len < length (packets_text count session es) + 2
    → packets_at fuel session held acc (take len (packets_text count session es ++ (to_be_bytes w16 0 ++ rest))) ≡ Err Torn
unfolding packets_text ArePackets packets_at
packets_torn count zero session held acc es rest len some enough full numbered are fits short = absurd (omega (arith, some))
packets_torn zero (suc fuel) session held acc es rest len some enough full numbered are fits short =
    let bytes = take len (to_be_bytes w16 0 ++ rest) in
    rw (length_torn session (held + length acc + 1) bytes (omega (arith, length-take len (to_be_bytes w16 0 ++ rest), short))) refl
packets_torn (suc count) (suc fuel) session held acc es rest len some enough full numbered are fits short =
    let text = first_text session es in
    let frame = frame_text text in
    let size = to_be_bytes w16 (length text) in
    let others = packets_text count session (drop ENTRIES_MOST es) in
    let tail = to_be_bytes w16 0 ++ rest in
    let next = acc ++ take ENTRIES_MOST es in
    let whole = full (omega arith) in
    let long = long_frame session es are.0 in
    let frame_fits : AreBytes frame =
    subst AreBytes (take_at frame others (length frame) refl) (AreBytes-take (length frame) (frame ++ others) fits) in
    let text_fits : AreBytes text = subst AreBytes (drop_at size text 2 (wide16.len (length text))) (AreBytes-drop 2 frame frame_fits) in
    let others_fit : AreBytes others = subst AreBytes (drop_at frame others (length frame) refl) (AreBytes-drop (length frame) (frame ++ others) fits) in
    let regrouped : take len ((frame ++ others) ++ tail) ≡ take len (frame ++ (others ++ tail)) = ap (λ (t : List ℕ). take len t) (append_assoc frame others tail) in
    elim (cases_lt len (length frame)) [
      | inl low ↦
          let cut : take len ((frame ++ others) ++ tail) ≡ take len frame = regrouped ∙ take-append-le len frame (others ++ tail) (omega (arith, low)) in
          let number = held + length acc + 1 in
          let torn = frame_torn session number (first_packet session es) (after_front es) len are.0 text_fits
          (first_begins session number es are.0 numbered) (short_text session es are.0).1 low in
          rw (cut, torn) refl
      | inr high ↦
          let left = len - length frame in
          let is : len ≡ length frame + left = omega (arith, high) in
          let cut : take len ((frame ++ others) ++ tail) ≡ frame ++ take left (others ++ tail) =
          regrouped ∙ ap (λ (n : ℕ). take n (frame ++ (others ++ tail))) is ∙ take_past frame (others ++ tail) left in
          ap (packets_at (suc fuel) session held acc) cut
          ∙ one_packet fuel session held acc es (take left (others ++ tail)) are.0 whole numbered
          ∙ packets_torn count fuel session held next (drop ENTRIES_MOST es) rest left (omega (arith, long, high, enough)) (omega (arith, long, high, enough))
          (full_before count session acc es whole are.1) (numbered_after held acc es numbered) are.1 others_fit
          (omega (arith, is, short, length-append frame others))
    ]

-- there are no more packets than bytes
few_packets : (count session : ℕ) (es : List Entry) → count ≤ length (packets_text count session es)
unfolding packets_text
few_packets zero session es = omega arith
few_packets (suc count) session es =
    let text = first_text session es in
    let frame = frame_text text in
    let others = packets_text count session (drop ENTRIES_MOST es) in
    omega (
      arith,
      few_packets count session (drop ENTRIES_MOST es),
      length-append frame others,
      length-append (to_be_bytes w16 (length text)) text,
      wide16.len (length text),
    )

-- ---- a group

-- the packets of a group
abbrev packets : ℕ → List Entry → List ℕ
packets session es = packets_text (packet_count es) session es

-- a group's parts, one after the other
abbrev parts : ℕ → List ℕ → List Entry → List ℕ → List ℕ
parts session before es rest =
    packets session es ++ (to_be_bytes w16 0 ++ (to_be_bytes w32 (length es) ++ (group_digest session before es ++ rest)))

-- the parts are the group's bytes
group_parts : (session : ℕ) (before : List ℕ) (es : List Entry) (rest : List ℕ) → group_text session before es ++ rest ≡ parts session before es rest
group_parts session before es rest = simp append_assoc

-- how long a group is
pub length-group_text : (session : ℕ) (before : List ℕ) (es : List Entry)
    → length (group_text session before es) ≡ length (packets session es) + 38
length-group_text session before es =
    omega (
      arith,
      length-append (group_body session es) (group_digest session before es),
      length-append (packets session es) (to_be_bytes w16 0 ++ to_be_bytes w32 (length es)),
      length-append (to_be_bytes w16 0) (to_be_bytes w32 (length es)),
      wide16.len 0,
      wide32.len (length es),
      length-sha256 (before ++ group_body session es),
    )

-- the end of a group is recognized as its end
end_again : (session : ℕ) (before : List ℕ) (es : List Entry) (rest : List ℕ) → 1 ≤ length es
    → is_end before
    (take (length (parts session before es rest) - length (group_digest session before es ++ rest)) (parts session before es rest))
    (length es) (length es) (group_digest session before es) ≡ true
end_again session before es rest some =
    let body = group_body session es in
    let digest = group_digest session before es in
    let whole : parts session before es rest ≡ body ++ (digest ++ rest) =
    sym (group_parts session before es rest) ∙ append_assoc body digest rest in
    let size : length (parts session before es rest) - length (digest ++ rest) ≡ length body =
    omega (arith, ap length whole, length-append body (digest ++ rest)) in
    let front : take (length (parts session before es rest) - length (digest ++ rest)) (parts session before es rest) ≡ body =
    ap (λ (n : ℕ). take n (parts session before es rest)) size ∙ ap (λ (t : List ℕ). take (length body) t) whole
    ∙ take_at body (digest ++ rest) (length body) refl in
    let many : nat_lt 0 (length es) ≡ true = lt-ltb 0 (length es) some in
    let count : (length es == length es) ≡ true = (Decides-eqb (length es) (length es)).1 refl in
    let same : bytes_eq digest digest ≡ true = (bytes_eq-Decides digest digest).1 refl in
    rw (front, many, count, same) refl

-- a group that was written is read back, whatever follows it
pub group_again : (session held : ℕ) (before : List ℕ) (es : List Entry) (rest : List ℕ) → IsGroup session held es
    → group_at session held before (group_text session before es ++ rest) ≡ Ok (es, (group_digest session before es, rest))
unfolding group_at
group_again session held before es rest group =
    let digest = group_digest session before es in
    let bytes = parts session before es rest in
    let tail = to_be_bytes w32 (length es) ++ (digest ++ rest) in
    let fuel : packet_count es < length bytes =
    omega (
      arith,
      few_packets (packet_count es) session es,
      length-append (packets session es) (to_be_bytes w16 0 ++ tail),
      length-append (to_be_bytes w16 0) tail,
      wide16.len 0,
    ) in
    let numbered : IsNumberedFrom (held + 0 + 1) es =
    let is : held + 1 ≡ held + 0 + 1 = omega arith in subst (λ (n : ℕ). IsNumberedFrom n es) is group.numbered in
    let first = packets_again (packet_count es) (length bytes) session held [] es tail fuel (λ some. refl) numbered group.packets in
    let second = (number_reader Torn wide32).again (length es) (digest ++ rest) (omega (arith, group.within)) in
    let third = bytes_there Torn 32 digest rest (length-sha256 (before ++ group_body session es)) in
    ap (group_at session held before) (group_parts session before es rest) ∙ rw (first, second, third, end_again session before es rest group.some) refl

-- a group whose end was cut is torn
end_torn : (session held : ℕ) (before : List ℕ) (es : List Entry) (len : ℕ) → IsGroup session held es → len < 36
    → group_at session held before
    (packets session es ++ (to_be_bytes w16 0 ++ take len (to_be_bytes w32 (length es) ++ group_digest session before es))) ≡ Err Torn
unfolding group_at
end_torn session held before es len group short =
    let digest = group_digest session before es in
    let count = to_be_bytes w32 (length es) in
    let tail = take len (count ++ digest) in
    let bytes = packets session es ++ (to_be_bytes w16 0 ++ tail) in
    let fuel : packet_count es < length bytes =
    omega (
      arith,
      few_packets (packet_count es) session es,
      length-append (packets session es) (to_be_bytes w16 0 ++ tail),
      length-append (to_be_bytes w16 0) tail,
      wide16.len 0,
    ) in
    let numbered : IsNumberedFrom (held + 0 + 1) es =
    let is : held + 1 ≡ held + 0 + 1 = omega arith in subst (λ (n : ℕ). IsNumberedFrom n es) is group.numbered in
    let first = packets_again (packet_count es) (length bytes) session held [] es tail fuel (λ some. refl) numbered group.packets in
    elim (cases_lt len 4) [
      | inl low ↦ rw (first, short_number tail (omega (arith, length-take len (count ++ digest), low))) refl
      | inr high ↦
          let is : len ≡ length count + (len - 4) = omega (arith, high, wide32.len (length es)) in
          let cut : tail ≡ count ++ take (len - 4) digest = ap (λ (n : ℕ). take n (count ++ digest)) is ∙ take_past count digest (len - 4) in
          let number : number_at Torn w32 tail ≡ Ok (length es, take (len - 4) digest) =
          ap (number_at Torn w32) cut ∙ (number_reader Torn wide32).again (length es) (take (len - 4) digest) (omega (arith, group.within)) in
          let ends = short_bytes 32 (take (len - 4) digest) (omega (arith, length-take (len - 4) digest, short, high)) in
          rw (first, number, ends) refl
    ]

-- packets that were cut are torn
begin_torn : (session held : ℕ) (before : List ℕ) (es : List Entry) (rest : List ℕ) (len : ℕ) → IsGroup session held es → AreBytes (packets session es)
    → 1 ≤ len → len < length (packets session es) + 2
    → group_at session held before (take len (packets session es ++ (to_be_bytes w16 0 ++ rest))) ≡ Err Torn
unfolding group_at
begin_torn session held before es rest len group fits some short =
    let whole = packets session es ++ (to_be_bytes w16 0 ++ rest) in
    let size : length (take len whole) ≡ len =
    omega (arith, length-take len whole, length-append (packets session es) (to_be_bytes w16 0 ++ rest), length-append (to_be_bytes w16 0) rest, wide16.len 0, short) in
    let numbered : IsNumberedFrom (held + 0 + 1) es =
    let is : held + 1 ≡ held + 0 + 1 = omega arith in subst (λ (n : ℕ). IsNumberedFrom n es) is group.numbered in
    rw (packets_torn (packet_count es) (length (take len whole)) session held [] es rest len (omega (arith, size, some)) (omega (arith, size)) (λ some. refl)
    numbered group.packets fits short)
    refl

-- a group that was cut is torn
pub group_torn : (session held : ℕ) (before : List ℕ) (es : List Entry) (len : ℕ) → IsGroup session held es → AreBytes (group_text session before es)
    → 1 ≤ len → len < length (group_text session before es) → group_at session held before (take len (group_text session before es)) ≡ Err Torn
group_torn session held before es len group fits some short =
    let digest = group_digest session before es in
    let count = to_be_bytes w32 (length es) in
    let mark = to_be_bytes w16 0 in
    let first = packets session es in
    let whole : group_text session before es ≡ first ++ (mark ++ (count ++ digest)) = simp append_assoc in
    let first_fits : AreBytes first =
    subst AreBytes (take_at first (mark ++ (count ++ digest)) (length first) refl)
    (AreBytes-take (length first) (first ++ (mark ++ (count ++ digest))) (subst AreBytes whole fits)) in
    let cut : take len (group_text session before es) ≡ take len (first ++ (mark ++ (count ++ digest))) = ap (λ (t : List ℕ). take len t) whole in
    elim (cases_lt len (length first + 2)) [
      | inl low ↦ ap (group_at session held before) cut ∙ begin_torn session held before es (count ++ digest) len group first_fits some low
      | inr high ↦
          let left = len - (length first + 2) in
          let is : len ≡ length first + (length mark + left) = omega (arith, high, wide16.len 0) in
          let tail : take len (first ++ (mark ++ (count ++ digest))) ≡ first ++ (mark ++ take left (count ++ digest)) =
          ap (λ (n : ℕ). take n (first ++ (mark ++ (count ++ digest)))) is ∙ take_past first (mark ++ (count ++ digest)) (length mark + left)
          ∙ ap (λ (t : List ℕ). first ++ t) (take_past mark (count ++ digest) left) in
          ap (group_at session held before) (cut ∙ tail)
          ∙ end_torn session held before es left group (omega (arith, short, high, length-group_text session before es))
    ]
