-- The numbers of entries, in a list and in a packet.
use Rattle.std.proofs.Common.{◌≡◌, ℕ, zero, suc, ◌+◌, ◌-◌, ◌≤◌, ◌<◌, ◌==◌, List, [], ◌∷◌, length, take, drop}
use Rattle.std.proofs.Common.{get_or, length-take, None, Some, refl, sym, ap, subst, ◌∙◌, inl, inr, arith, eq-eqb}
use Rattle.std.proofs.lemmas.Bool.{cases_lt, cond-true, cond-false, ne_eqb, eqb-true, cases_Bool}
use Rattle.std.proofs.lemmas.List.{take-append-drop}
use Rattle.std.proofs.lemmas.List.Elements.{All-nil}
use Rattle.std.proofs.lemmas.Option.{same_Some, slice_get_past, slice_get-get_or, none-some, slice_get_within}
use Rattle.std.specs.Prelude.{All, slice_get, IfSome}
use Rattle.tape_core.specs.declared.entry.Entry.{Entry}
use Rattle.tape_frames.specs.Lemmas.Numbers.{number_at_place, IsNumberedFrom-append}
use Rattle.tape_frames.specs.Packets.{entries_of, last_of, end_of, HasNumbers}
use Rattle.tape_frames.specs.PacketEntries.{IsNumberedFrom, IsEmptyOrRow, first_number}
use Rattle.tape_frames.specs.declared.packet.Packet.{Packet}
use Rattle.tape_frames.specs.declared.packet.Packet.TheVariants.{Data, Beat, End}
use Rattle.arbitration.specs.Lemmas.Slots.{other_number}
use Rattle.arbitration.specs.Deliveries.{entry_numbered}
use Rattle.tape_types.specs.Ranges.{TAPE_MOST}
use Rattle.tape_frames.specs.Limits.{ENTRIES_MOST}

-- the entry of a number in consecutive entries is the one at its place
pub entry_numbered-place : (first : ℕ) (es : List Entry) (m : ℕ) → IsNumberedFrom first es → entry_numbered (first + m) es ≡ slice_get es m
entry_numbered-place first [] m h = refl
entry_numbered-place first (e ∷ es) zero h = cond-true (e.number == (first + 0)) _ _ (eq-eqb _ _ (omega arith))
entry_numbered-place first (e ∷ es) (suc m) h =
    cond-false (e.number == (first + suc m)) _ _ (ne_eqb _ _ (λ p. omega arith))
    ∙ (let p : first + suc m ≡ (first + 1) + m = omega arith in ap (λ n. entry_numbered n es) p)
    ∙ entry_numbered-place (first + 1) es m h.1

-- consecutive entries have none of a number below the first
pub numbered_below : (first : ℕ) (es : List Entry) (n : ℕ) → IsNumberedFrom first es → n < first → entry_numbered n es ≡ None
numbered_below first [] n h below = refl
numbered_below first (e ∷ es) n h below =
    cond-false (e.number == n) _ _ (ne_eqb _ _ (λ p. omega arith)) ∙ numbered_below (first + 1) es n h.1 (omega arith)

-- the entry of a number in consecutive entries, and its place
pub numbered_place : (first : ℕ) (es : List Entry) (n : ℕ) (e : Entry) → IsNumberedFrom first es → entry_numbered n es ≡ Some e
    → (k : ℕ) × (n ≡ first + k) × (slice_get es k ≡ Some e)
numbered_place first es n e h found = elim (cases_lt n first) [
  | inl below ↦ absurd (none-some e (sym (numbered_below first es n h below) ∙ found))
  | inr above ↦
      let p : n ≡ first + (n - first) = omega arith in
      (n - first, p, sym (entry_numbered-place first es (n - first) h) ∙ ap (λ i. entry_numbered i es) (sym p) ∙ found)
]

-- the entry of a number is in the list and has the number
pub find_place : (es : List Entry) (n : ℕ) (e : Entry) → entry_numbered n es ≡ Some e → (k : ℕ) × (slice_get es k ≡ Some e) × (e.number ≡ n)
find_place [] n e found = absurd (none-some e found)
find_place (x ∷ es) n e found = elim (cases_Bool (x.number == n)) [
  | inl same_number ↦
      let same : x ≡ e = same_Some x e (sym (cond-true (x.number == n) _ _ same_number) ∙ found) in
      (0, ap Some same, ap (λ (y : Entry). y.number) (sym same) ∙ eqb-true _ _ same_number)
  | inr other_number ↦
      let rest = find_place es n e (sym (cond-false (x.number == n) _ _ other_number) ∙ found) in
      (suc rest.0, rest.1, rest.2)
]

-- no two entries of a row have the same number
pub number_is_new : (first : ℕ) (es : List Entry) (k : ℕ) (d : Entry) → IsNumberedFrom first es → k < length es
    → entry_numbered (get_or es k d).number (take k es) ≡ None
number_is_new first es k d h within =
    let number = number_at_place first es k (get_or es k d) h (slice_get-get_or es k d within) in
    let front = (IsNumberedFrom-append first (take k es) (drop k es) (subst (IsNumberedFrom first) (sym (take-append-drop k es)) h)).0 in
    ap (λ n. entry_numbered n (take k es)) number ∙ entry_numbered-place first (take k es) k front ∙ slice_get_past (take k es) k (omega (arith, length-take k es))

-- the entries of a packet are consecutive and few, and their numbers positive
pub row_numbers : (es : List Entry) → IsEmptyOrRow es → IsNumberedFrom (first_number es) es × (length es ≤ ENTRIES_MOST) × All (λ e. 1 ≤ e.number) es
row_numbers [] h = (tt, omega arith, All-nil _)
row_numbers (e ∷ es) h = (
  h.consecutive,
  h.few,
  λ k d within.
      let number = number_at_place (first_number (e ∷ es)) (e ∷ es) k (get_or (e ∷ es) k d) h.consecutive (slice_get-get_or (e ∷ es) k d within) in
      let positive : 1 ≤ e.number = h.positive in
      omega arith,
)

-- the numbers of a packet's entries are at most its last number
pub packet_numbers : (q : Packet) → HasNumbers q → (n : ℕ) (e : Entry) → entry_numbered n (entries_of q) ≡ Some e → (e.number ≡ n) × (n ≤ last_of q)
packet_numbers (Data session row) h n e found =
    let es = row.entries in
    let place = find_place es n e found in
    let number = number_at_place (first_number es) es place.0 e h.consecutive place.1 in
    let within = slice_get_within es place.0 e place.1 in
    (place.2, (let same : e.number ≡ n = place.2 in omega arith))
packet_numbers (Beat session last) h n e found = absurd (cc)
packet_numbers (End session count) h n e found = absurd (cc)

-- the last number of a packet is within a tape's range
pub packet_within : (q : Packet) → HasNumbers q → last_of q ≤ TAPE_MOST
packet_within (Data session row) h = let within = h.within in omega arith
packet_within (Beat session last) h = h
packet_within (End session count) h = h

-- the end that a packet states is its last number
pub packet_end : (q : Packet) → IfSome (end_of q) (λ count. last_of q ≡ count)
packet_end (Data session row) = tt
packet_end (Beat session last) = tt
packet_end (End session count) = refl
