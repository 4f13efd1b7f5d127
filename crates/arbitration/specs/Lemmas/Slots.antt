-- How a packet's entries change the slots, one entry after the other.
use Rattle.std.proofs.Common.{◌≡◌, ℕ, zero, suc, ◌+◌, ◌-◌, ◌≤◌, ◌<◌, ◌==◌, true, false, List, [], ◌∷◌, ◌++◌, length}
use Rattle.std.proofs.Common.{set, take, get_or, Option, None, Some, refl, sym, ap, ap₂, ◌∙◌, inl, inr, arith, eq-eqb}
use Rattle.std.proofs.lemmas.Bool.{cases_lt, cond-true, cond-false, ne_eqb, le-ltb, lt-ltb, true≢false, false≢true}
use Rattle.std.proofs.lemmas.List.{take_more}
use Rattle.std.proofs.lemmas.List.Folds.{find-append}
use Rattle.std.proofs.lemmas.Option.{same_Some, slice_get_past}
use Rattle.std.specs.Option.{option_or}
use Rattle.std.specs.Prelude.{slice_get, is_some, nat_lt}
use Rattle.tape_core.specs.declared.entry.Entry.{Entry}
use Rattle.summaries.specs.Lemmas.LastLaw.{option_or-none}
use Rattle.arbitration.specs.Counts.{placing_of, placing_in}
use Rattle.arbitration.specs.Deliveries.{entry_numbered, slots_after}
use Rattle.arbitration.specs.declared.taken.Placing.TheVariants.{Fresh, Repeated, Beyond}

-- the first of three that is present
or_assoc : (o p q : Option Entry) → option_or (option_or o p) q ≡ option_or o (option_or p q)
or_assoc None p q = refl
or_assoc (Some x) p q = refl

-- one list of entries after another is both at once
pub slots_after-twice : (next : ℕ) (slots : List (Option Entry)) (xs ys : List Entry)
    → slots_after next (slots_after next slots xs) ys ≡ slots_after next slots (xs ++ ys)
slots_after-twice next [] xs ys = refl
slots_after-twice next (slot ∷ slots) xs ys =
    ap₂ ◌∷◌ (or_assoc slot (entry_numbered next xs) (entry_numbered next ys) ∙ ap (option_or slot) (sym (find-append (λ e. e.number == next) xs ys)))
    (slots_after-twice (next + 1) slots xs ys)

-- no entries change no slot
pub slots_after-none : (next : ℕ) (slots : List (Option Entry)) → slots_after next slots [] ≡ slots
slots_after-none next [] = refl
slots_after-none next (slot ∷ slots) = ap₂ ◌∷◌ (option_or-none slot) (slots_after-none (next + 1) slots)

-- the number of slots stays the same
pub length-slots_after : (next : ℕ) (slots : List (Option Entry)) (es : List Entry) → length (slots_after next slots es) ≡ length slots
length-slots_after next [] es = refl
length-slots_after next (slot ∷ slots) es = ap suc (length-slots_after (next + 1) slots es)

-- an entry of another number is not the one of this number
pub other_number : (next : ℕ) (e : Entry) → (e.number ≡ next → ⊥) → entry_numbered next (e ∷ []) ≡ None
other_number next e other = cond-false (e.number == next) _ _ (ne_eqb _ _ other)

-- an entry whose number has no slot changes no slot
slots_after-other : (next : ℕ) (slots : List (Option Entry)) (e : Entry) → ((k : ℕ) → k < length slots → e.number ≡ next + k → ⊥)
    → slots_after next slots (e ∷ []) ≡ slots
slots_after-other next [] e other = refl
slots_after-other next (slot ∷ slots) e other =
    ap₂ ◌∷◌ (ap (option_or slot) (other_number next e (λ same. other 0 (omega arith) (omega arith))) ∙ option_or-none slot)
    (slots_after-other (next + 1) slots e (λ k within same. other (suc k) (omega arith) (omega arith)))

-- an entry below the first slot changes no slot
pub slots_after-below : (next : ℕ) (slots : List (Option Entry)) (e : Entry) → e.number < next → slots_after next slots (e ∷ []) ≡ slots
slots_after-below next slots e below = slots_after-other next slots e (λ k within same. omega arith)

-- an entry past the last slot changes no slot
pub slots_after-past : (next : ℕ) (slots : List (Option Entry)) (e : Entry) → next + length slots ≤ e.number → slots_after next slots (e ∷ []) ≡ slots
slots_after-past next slots e past = slots_after-other next slots e (λ k within same. omega arith)

-- an entry whose slot is full changes no slot
pub slots_after-full : (next : ℕ) (slots : List (Option Entry)) (e x : Entry) (k : ℕ) → e.number ≡ next + k → slice_get slots k ≡ Some (Some x)
    → slots_after next slots (e ∷ []) ≡ slots
slots_after-full next [] e x k h found = refl
slots_after-full next (slot ∷ slots) e x zero h found =
    ap₂ ◌∷◌ (ap (λ o. option_or o (entry_numbered next (e ∷ []))) (same_Some slot (Some x) found) ∙ sym (same_Some slot (Some x) found))
    (slots_after-below (next + 1) slots e (omega arith))
slots_after-full next (slot ∷ slots) e x (suc k) h found =
    ap₂ ◌∷◌ (ap (option_or slot) (other_number next e (λ p. omega arith)) ∙ option_or-none slot) (slots_after-full (next + 1) slots e x k (omega arith) found)

-- an entry whose slot is empty fills it
pub slots_after-empty : (next : ℕ) (slots : List (Option Entry)) (e : Entry) (k : ℕ) → e.number ≡ next + k → slice_get slots k ≡ Some None
    → slots_after next slots (e ∷ []) ≡ set slots k (Some e)
slots_after-empty next [] e k h found = refl
slots_after-empty next (slot ∷ slots) e zero h found =
    ap₂ ◌∷◌ (ap (λ o. option_or o (entry_numbered next (e ∷ []))) (same_Some slot None found) ∙ cond-true (e.number == next) _ _ (eq-eqb _ _ (omega arith)))
    (slots_after-below (next + 1) slots e (omega arith))
slots_after-empty next (slot ∷ slots) e (suc k) h found =
    ap₂ ◌∷◌ (ap (option_or slot) (other_number next e (λ p. omega arith)) ∙ option_or-none slot) (slots_after-empty (next + 1) slots e k (omega arith) found)

-- what becomes of an entry, by its slot
pub placing_at : (next : ℕ) (slots : List (Option Entry)) (e : Entry) (k : ℕ) → e.number ≡ next + k → placing_of next slots e ≡ placing_in (slice_get slots k)
placing_at next slots e k p =
    let place : e.number - next ≡ k = omega arith in
    cond-false (nat_lt e.number next) _ _ (le-ltb _ _ (omega arith)) ∙ ap (λ i. placing_in (slice_get slots i)) place

-- an entry past the last slot is too far ahead
pub placing_past : (next : ℕ) (slots : List (Option Entry)) (e : Entry) → next + length slots ≤ e.number → placing_of next slots e ≡ Beyond
placing_past next slots e h =
    let p : e.number ≡ next + (e.number - next) = omega arith in
    placing_at next slots e _ p ∙ ap placing_in (slice_get_past slots (e.number - next) (omega arith))

-- an entry whose slot is full changes no slot and is repeated
pub full_slot : (next : ℕ) (slots : List (Option Entry)) (e : Entry) (o : Option Entry) (k : ℕ) → e.number ≡ next + k → slice_get slots k ≡ Some o
    → is_some o ≡ true → (slots_after next slots (e ∷ []) ≡ slots) × (placing_of next slots e ≡ Repeated)
full_slot next slots e None k p found full = absurd (false≢true full)
full_slot next slots e (Some x) k p found full = (slots_after-full next slots e x k p found, placing_at next slots e k p ∙ ap placing_in found)

-- an entry whose slot is empty fills it and is fresh
pub empty_slot : (next : ℕ) (slots : List (Option Entry)) (e : Entry) (o : Option Entry) (k : ℕ) → e.number ≡ next + k → slice_get slots k ≡ Some o
    → is_some o ≡ false → (slots_after next slots (e ∷ []) ≡ set slots k (Some e)) × (placing_of next slots e ≡ Fresh)
empty_slot next slots e None k p found empty = (slots_after-empty next slots e k p found, placing_at next slots e k p ∙ ap placing_in found)
empty_slot next slots e (Some x) k p found empty = absurd (true≢false empty)

-- what becomes of an entry is the same after entries of other numbers
pub placing-slots_after : (next : ℕ) (slots : List (Option Entry)) (es : List Entry) (e : Entry) → entry_numbered e.number es ≡ None
    → placing_of next (slots_after next slots es) e ≡ placing_of next slots e
placing-slots_after next slots es e new = elim (cases_lt e.number next) [
  | inl below ↦ cond-true (nat_lt e.number next) _ _ (lt-ltb _ _ below) ∙ sym (cond-true (nat_lt e.number next) _ _ (lt-ltb _ _ below))
  | inr above ↦
      let p : e.number ≡ next + (e.number - next) = omega arith in
      placing_at next (slots_after next slots es) e _ p
      ∙ ap placing_in (slot_at next slots (e.number - next) (ap (λ n. entry_numbered n es) (sym p) ∙ new))
      ∙ sym (placing_at next slots e _ p)
]
  where
    slot_at : (next : ℕ) (slots : List (Option Entry)) (k : ℕ) → entry_numbered (next + k) es ≡ None → slice_get (slots_after next slots es) k
        ≡ slice_get slots k
    slot_at next [] k h = refl
    slot_at next (slot ∷ slots) zero h = ap Some
        (ap (option_or slot) ((let p : next ≡ next + 0 = omega arith in ap (λ n. entry_numbered n es) p) ∙ h) ∙ option_or-none slot)
    slot_at next (slot ∷ slots) (suc k) h = slot_at (next + 1) slots k
        ((let p : (next + 1) + k ≡ next + suc k = omega arith in ap (λ n. entry_numbered n es) p) ∙ h)

-- the slots after one turn of settling
pub turn_slots : (next : ℕ) (start now : List (Option Entry)) (es : List Entry) (k : ℕ) (d : Entry) → k < length es
    → now ≡ slots_after next start (take k es) → slots_after next now (get_or es k d ∷ []) ≡ slots_after next start (take (k + 1) es)
turn_slots next start now es k d within so_far =
    ap (λ s. slots_after next s (get_or es k d ∷ [])) so_far ∙ slots_after-twice next start (take k es) _
    ∙ ap (slots_after next start) (sym (take_more es k d within))
