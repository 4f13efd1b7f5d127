-- Reads back packets that follow their lengths, whole or cut.
use Rattle.std.proofs.Common.{◌≡◌, ℕ, zero, suc, ◌+◌, ◌-◌, ◌<◌, ◌≤◌, true, false, ltb, List, [], ◌++◌, length, take, drop, Result, Ok, Err}
use Rattle.std.proofs.Common.{append-nil, append_assoc, refl, sym, ap, ◌∙◌, arith, inl, inr}
use Rattle.std.specs.Int.{w16, to_be_bytes}
use Rattle.std.proofs.lemmas.Bool.{cases_lt, lt-ltb, le-ltb}
use Rattle.std.proofs.lemmas.List.{length-append, length-take, take-append-drop, take-append-le, take-take, take_all, take_at}
use Rattle.std.proofs.lemmas.Slice.Eq.{bytes_eq-Decides}
use Rattle.reports.specs.Lemmas.Fields.{AreBytes, AreBytes-take, number_reader, wide16}
use Rattle.tape_frames.specs.Limits.{LONGEST_PACKET}
use Rattle.tape_frames.specs.declared.packet.Packet.{Packet}
use Rattle.tape_frames.specs.declared.packet_fault.PacketFault.{PacketFault}
use Rattle.tape_frames.specs.Spelling.{IsPacket, Spells, packet_text}
use Rattle.tape_frames.specs.Reading.{packet_of}
use Rattle.tape_frames.specs.Lemmas.Packets.{one_packet_spelling, packet_of-Ok}
use Rattle.day_journal.specs.declared.group_fault.GroupFault.TheVariants.{Torn}
use Rattle.day_journal.specs.Groups.{frame_text}
use Rattle.day_journal.specs.GroupReading.{begins_next, begins_with_packet, frame_length, is_packet, packet_front, tail_fault}
use Rattle.day_journal.proofs.Lists.{short_length, take_past}

-- a proper front of a packet is not a packet
not_packet : (q : Packet) (len : ℕ) (r : Result Packet PacketFault) → IsPacket q → AreBytes (packet_text q) → len < length (packet_text q)
    → r ≡ packet_of (take len (packet_text q)) → is_packet r ≡ false
not_packet q len (Ok p) valid fits short read =
    let text = packet_text q in
    let front = take len text in
    let spells : Spells front p = packet_of-Ok front (Ok p) (AreBytes-take len text fits) read in
    let whole : front ++ drop len text ≡ text ++ [] = take-append-drop len text ∙ sym (append-nil text) in
    let same = one_packet_spelling p q front text (drop len text) [] spells (valid, refl) whole in
    absurd (omega (arith, length-take len text, ap length same.1, short))
not_packet q len (Err f) valid fits short read = refl

-- no front of a cut packet is a packet
none_begins : (q : Packet) (count len : ℕ) → IsPacket q → AreBytes (packet_text q) → len < length (packet_text q) → count ≤ len + 1
    → begins_with_packet count (take len (packet_text q)) ≡ false
unfolding begins_with_packet
none_begins q zero len valid fits short within = refl
none_begins q (suc count) len valid fits short within =
    let same : take count (take len (packet_text q)) ≡ take count (packet_text q) = take-take count len (packet_text q) (omega (arith, within)) in
    let none : is_packet (packet_of (take count (take len (packet_text q)))) ≡ false =
    ap (λ (t : List ℕ). is_packet (packet_of t)) same
    ∙ not_packet q count (packet_of (take count (packet_text q))) valid fits (omega (arith, within, short)) refl in
    rw none (none_begins q count len valid fits short (omega (arith, within)))

-- what begins as the next packet does still does so after a cut
begins_cut : (session number : ℕ) (text rest : List ℕ) (len : ℕ) → text ≡ packet_front session number ++ rest → len ≤ length text
    → begins_next session number (take len text) ≡ true
begins_cut session number text rest len is within =
    let front = packet_front session number in
    let cut = take len text in
    let size : length cut ≡ len = omega (arith, length-take len text, within) in
    let same : take (length front) cut ≡ take (length cut) front =
    elim (cases_lt (length front) len) [
      | inl low ↦
          take-take (length front) len text (omega (arith, low)) ∙ ap (λ (t : List ℕ). take (length front) t) is ∙ take_at front rest (length front) refl
          ∙ sym (take_all (length cut) front (omega (arith, size, low)))
      | inr high ↦
          take_all (length front) cut (omega (arith, size, high)) ∙ ap (λ (t : List ℕ). take len t) is ∙ take-append-le len front rest high
          ∙ ap (λ (n : ℕ). take n front) (sym size)
    ] in
    (bytes_eq-Decides (take (length front) cut) (take (length cut) front)).1 same

-- so the next packet is torn if it was cut
tail_torn : (session number : ℕ) (q : Packet) (rest : List ℕ) (len : ℕ) → IsPacket q → AreBytes (packet_text q)
    → packet_text q ≡ packet_front session number ++ rest → len < length (packet_text q) → tail_fault session number (take len (packet_text q)) ≡ Torn
tail_torn session number q rest len valid fits next short =
    let text = take len (packet_text q) in
    let none = none_begins q (length text + 1) len valid fits short (omega (arith, length-take len (packet_text q))) in
    let begins = begins_cut session number (packet_text q) rest len next (omega (arith, short)) in
    rw (none, begins) refl

-- a length that is there is read
pub frame_again : (session number : ℕ) (text more : List ℕ) → length text ≤ LONGEST_PACKET
    → frame_length session number (frame_text text ++ more) ≡ Ok (length text)
unfolding frame_length
frame_again session number text more few =
    let regrouped : frame_text text ++ more ≡ to_be_bytes w16 (length text) ++ (text ++ more) = append_assoc (to_be_bytes w16 (length text)) text more in
    let read = (number_reader Torn wide16).again (length text) (text ++ more) (omega (arith, few)) in
    let low : ltb LONGEST_PACKET (length text) ≡ false = le-ltb LONGEST_PACKET (length text) few in
    let there : ltb (length (text ++ more)) (length text) ≡ false = le-ltb (length (text ++ more)) (length text) (omega (arith, length-append text more)) in
    ap (frame_length session number) regrouped ∙ rw (read, low, there) refl

-- a length without both of its bytes is torn
pub length_torn : (session number : ℕ) (bytes : List ℕ) → length bytes < 2 → frame_length session number bytes ≡ Err Torn
unfolding frame_length
length_torn session number bytes short = rw (short_length bytes short) refl

-- a packet that ends before its length says is torn
body_torn : (session number : ℕ) (q : Packet) (rest : List ℕ) (len : ℕ) → IsPacket q → AreBytes (packet_text q)
    → packet_text q ≡ packet_front session number ++ rest → length (packet_text q) ≤ LONGEST_PACKET → len < length (packet_text q)
    → frame_length session number (to_be_bytes w16 (length (packet_text q)) ++ take len (packet_text q)) ≡ Err Torn
unfolding frame_length
body_torn session number q rest len valid fits next few short =
    let text = packet_text q in
    let body = take len text in
    let read = (number_reader Torn wide16).again (length text) body (omega (arith, few)) in
    let low : ltb LONGEST_PACKET (length text) ≡ false = le-ltb LONGEST_PACKET (length text) few in
    let ends : ltb (length body) (length text) ≡ true = lt-ltb (length body) (length text) (omega (arith, length-take len text, short)) in
    rw (read, low, ends, tail_torn session number q rest len valid fits next short) refl

-- the next packet after its length is torn if it was cut
pub frame_torn : (session number : ℕ) (q : Packet) (rest : List ℕ) (len : ℕ) → IsPacket q → AreBytes (packet_text q)
    → packet_text q ≡ packet_front session number ++ rest → length (packet_text q) ≤ LONGEST_PACKET
    → len < length (frame_text (packet_text q)) → frame_length session number (take len (frame_text (packet_text q))) ≡ Err Torn
frame_torn session number q rest len valid fits next few short =
    let text = packet_text q in
    let size = to_be_bytes w16 (length text) in
    elim (cases_lt len 2) [
      | inl low ↦ length_torn session number (take len (frame_text text)) (omega (arith, length-take len (frame_text text), low))
      | inr high ↦
          let is : len ≡ length size + (len - 2) = omega (arith, high, wide16.len (length text)) in
          let parts : take len (frame_text text) ≡ size ++ take (len - 2) text =
          ap (λ (n : ℕ). take n (frame_text text)) is ∙ take_past size text (len - 2) in
          ap (frame_length session number) parts
          ∙ body_torn session number q rest (len - 2) valid fits next few (omega (arith, short, high, length-append size text, wide16.len (length text)))
    ]
