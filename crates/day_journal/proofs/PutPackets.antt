-- Puts the packets of a group one after the other.
use Rattle.std.proofs.Common.{◌≡◌, ℕ, zero, suc, ◌+◌, ◌-◌, ◌*◌, ◌<◌, ◌≤◌, List, ◌++◌, append-nil, append_assoc, length, take, drop, min}
use Rattle.std.proofs.Common.{sym, ap, subst, ◌∙◌, arith, inl, inr}
use Rattle.std.proofs.lemmas.Bool.{cases_lt}
use Rattle.std.proofs.lemmas.List.{drop-drop, length-drop, length-take, nil_from_length, take-append-drop}
use Rattle.tape_core.specs.declared.entry.Entry.{Entry}
use Rattle.tape_frames.specs.declared.packet.Packet.{Packet}
use Rattle.tape_frames.specs.declared.packet.Packet.TheVariants.{Data}
use Rattle.tape_frames.specs.declared.version.Version.TheVariants.{Two}
use Rattle.tape_frames.specs.PacketEntries.{IsNumberedFrom}
use Rattle.tape_frames.specs.Lemmas.Numbers.{IsNumberedFrom-append, IsNumberedFrom-take}
use Rattle.tape_frames.specs.Limits.{ENTRIES_MOST}
use Rattle.tape_frames.specs.Sources.{cut_of, sendable}
use Rattle.tape_frames.specs.Spelling.{IsPacket, packet_text}
use Rattle.tape_types.specs.Ranges.{TAPE_MOST}
use Rattle.day_journal.specs.Groups.{ArePackets, first_packet, frame_text, packet_count, packets_text, pending}

-- what was put and what is still to be put are together all
abbrev pub Left : List ℕ → List ℕ → ℕ → List Entry → ℕ → ℕ → Type 0
Left old text session es count place =
    text ++ packets_text (count - place) session (drop (ENTRIES_MOST * place) es) ≡ old ++ packets_text count session es

-- the packet that was cut is the first of those that are left
pub cut_packet : (session held place : ℕ) (list : List Entry)
    → Data session (record { version = Two; entries = cut_of Two list (held + ENTRIES_MOST * place + 1) })
    ≡ first_packet session (drop (ENTRIES_MOST * place) (pending held list))
cut_packet session held place list =
    let at : held + ENTRIES_MOST * place + 1 - 1 ≡ held + ENTRIES_MOST * place = omega arith in
    let same : drop (held + ENTRIES_MOST * place + 1 - 1) (sendable Two list) ≡ drop (ENTRIES_MOST * place) (pending held list) =
    ap (λ (n : ℕ). drop n (sendable Two list)) at ∙ sym (drop-drop (ENTRIES_MOST * place) held (sendable Two list)) in
    ap (λ (es : List Entry). first_packet session es) same

-- one more packet is put
pub Left-more : (old text new : List ℕ) (session : ℕ) (es : List Entry) (count place : ℕ) (q : Packet) → place < count → Left old text session es count place
    → q ≡ first_packet session (drop (ENTRIES_MOST * place) es) → new ≡ text ++ frame_text (packet_text q) → Left old new session es count (place + 1)
unfolding packets_text
Left-more old text new session es count place q some left is grown =
    let rest = drop (ENTRIES_MOST * place) es in
    let others = count - (place + 1) in
    let one : count - place ≡ suc others = omega (arith, some) in
    let at : ENTRIES_MOST * (place + 1) ≡ ENTRIES_MOST * place + ENTRIES_MOST = omega arith in
    let next : drop (ENTRIES_MOST * (place + 1)) es ≡ drop ENTRIES_MOST rest =
    ap (λ (n : ℕ). drop n es) at ∙ sym (drop-drop ENTRIES_MOST (ENTRIES_MOST * place) es) in
    let before : text ++ packets_text (suc others) session rest ≡ old ++ packets_text count session es =
    subst (λ (n : ℕ). text ++ packets_text n session rest ≡ old ++ packets_text count session es) one left in
    let front : new ≡ text ++ frame_text (packet_text (first_packet session rest)) = grown ∙ ap (λ (p : Packet). text ++ frame_text (packet_text p)) is in
    ap (λ (xs : List Entry). new ++ packets_text others session xs) next
    ∙ ap (λ (t : List ℕ). t ++ packets_text others session (drop ENTRIES_MOST rest)) front
    ∙ append_assoc text (frame_text (packet_text (first_packet session rest))) (packets_text others session (drop ENTRIES_MOST rest))
    ∙ before

-- all packets were put
pub Left-end : (old text : List ℕ) (session : ℕ) (es : List Entry) (count place : ℕ) → count ≤ place → Left old text session es count place
    → text ≡ old ++ packets_text count session es
unfolding packets_text
Left-end old text session es count place all left =
    let none : count - place ≡ 0 = omega (arith, all) in
    let last : text ++ packets_text 0 session (drop (ENTRIES_MOST * place) es) ≡ old ++ packets_text count session es =
    subst (λ (n : ℕ). text ++ packets_text n session (drop (ENTRIES_MOST * place) es) ≡ old ++ packets_text count session es) none left in
    sym (append-nil text) ∙ last

-- the packets that were put have a spelling
abbrev pub AreSpelled : ℕ → List Entry → ℕ → Type 0
AreSpelled session es count = (k : ℕ) → k < count → IsPacket (first_packet session (drop (ENTRIES_MOST * k) es))

-- if one more has a spelling, all have
pub AreSpelled-more : (session : ℕ) (es : List Entry) (place : ℕ) (q : Packet) → AreSpelled session es place
    → q ≡ first_packet session (drop (ENTRIES_MOST * place) es) → IsPacket q → AreSpelled session es (place + 1)
AreSpelled-more session es place q before is valid = λ k lt. elim (cases_lt k place) [
  | inl below ↦ before k below
  | inr here ↦
      let same : place ≡ k = omega (arith, here, lt) in
      subst (λ (n : ℕ). IsPacket (first_packet session (drop (ENTRIES_MOST * n) es))) same (subst IsPacket is valid)
]

-- so they are the packets of the entries
ArePackets-from : (count session : ℕ) (es : List Entry) → AreSpelled session es count → length es ≤ ENTRIES_MOST * count → ArePackets count session es
unfolding ArePackets
ArePackets-from zero session es spelled few = nil_from_length es (omega (arith, few))
ArePackets-from (suc count) session es spelled few =
    let others : AreSpelled session (drop ENTRIES_MOST es) count = λ k lt.
    let at : ENTRIES_MOST * (k + 1) ≡ ENTRIES_MOST + ENTRIES_MOST * k = omega arith in
    let same : drop (ENTRIES_MOST * (k + 1)) es ≡ drop (ENTRIES_MOST * k) (drop ENTRIES_MOST es) =
    ap (λ (n : ℕ). drop n es) at ∙ sym (drop-drop (ENTRIES_MOST * k) ENTRIES_MOST es) in
    subst (λ (xs : List Entry). IsPacket (first_packet session xs)) same (spelled (k + 1) (omega (arith, lt))) in
    (spelled 0 (omega arith), ArePackets-from count session (drop ENTRIES_MOST es) others (omega (arith, length-drop ENTRIES_MOST es, few)))

-- once all are put, they are the packets of the entries
pub ArePackets-all : (session : ℕ) (es : List Entry) (count place : ℕ) → count ≡ packet_count es → count ≤ place → AreSpelled session es place
    → ArePackets (packet_count es) session es
ArePackets-all session es count place is all spelled =
    ArePackets-from (packet_count es) session es (λ k lt. spelled k (omega (arith, lt, is, all))) (omega arith)

-- how many entries are pending
pub length-pending : (held : ℕ) (list : List Entry) → length (pending held list) ≡ min (length list) TAPE_MOST - held
length-pending held list = omega (arith, length-drop held (sendable Two list), length-take TAPE_MOST list)

-- the pending entries are numbered on from the held ones
pub numbered_pending : (held : ℕ) (list : List Entry) → IsNumberedFrom 1 list → 1 ≤ length (pending held list) → IsNumberedFrom (held + 1) (pending held list)
numbered_pending held list numbered some =
    let front = sendable Two list in
    let all : IsNumberedFrom 1 (take held front ++ drop held front) =
    subst (IsNumberedFrom 1) (sym (take-append-drop held front)) (IsNumberedFrom-take TAPE_MOST 1 list numbered) in
    let at : 1 + length (take held front) ≡ held + 1 = omega (arith, length-take held front, length-drop held front, some) in
    subst (λ (n : ℕ). IsNumberedFrom n (drop held front)) at (IsNumberedFrom-append 1 (take held front) (drop held front) all).1
