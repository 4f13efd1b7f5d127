-- The ready entries of a window, and its first gap.
use Rattle.std.proofs.Common.{◌≡◌, ℕ, zero, suc, ◌+◌, ◌-◌, ◌≤◌, ◌<◌, true, List, [], ◌∷◌, ◌++◌, length, Option, None, Some, refl, sym, ap, ap₂, ◌∙◌}
use Rattle.std.proofs.Common.{drop, inl, inr, arith, min}
use Rattle.std.proofs.lemmas.Bool.{cases_lt, cond-false, le-ltb, false≢true}
use Rattle.std.proofs.lemmas.Option.{none-some, same_Some}
use Rattle.std.specs.Prelude.{slice_get, is_some, nat_lt, ◌↔◌}
use Rattle.tape_core.specs.declared.entry.Entry.{Entry}
use Rattle.arbitration.specs.Gaps.{ASKED_MOST, IsMissing, IsGap, waiting_entry}
use Rattle.arbitration.specs.Windows.{WindowState, ready_entries, flat}

-- no more entries are ready than there are slots
pub ready_within : (slots : List (Option Entry)) → length (ready_entries slots) ≤ length slots
ready_within [] = omega arith
ready_within (None ∷ slots) = omega arith
ready_within (Some e ∷ slots) = let rest = ready_within slots in omega arith

-- nothing is ready if and only if the first slot is empty
pub none_ready : (slots : List (Option Entry)) → (length (ready_entries slots) ≡ 0) ↔ (flat (slice_get slots 0) ≡ None)
none_ready [] = (λ h. refl, λ h. refl)
none_ready (None ∷ slots) = (λ h. refl, λ h. refl)
none_ready (Some e ∷ slots) = (λ h. absurd (omega arith), λ h. absurd (none-some e (sym h)))

-- an empty slot at the end makes nothing ready
pub ready-push : (slots : List (Option Entry)) → ready_entries (slots ++ None ∷ []) ≡ ready_entries slots
ready-push [] = refl
ready-push (None ∷ slots) = refl
ready-push (Some e ∷ slots) = ap (λ es. e ∷ es) (ready-push slots)

-- once the first ready entry is taken out, the ready ones after it are ready
pub ready-past : (slots : List (Option Entry)) (e : Entry) → flat (slice_get slots 0) ≡ Some e
    → ready_entries slots ≡ e ∷ ready_entries (drop 1 slots ++ None ∷ [])
ready-past [] e h = absurd (none-some e h)
ready-past (None ∷ slots) e h = absurd (none-some e h)
ready-past (Some x ∷ slots) e h = ap₂ ◌∷◌ (same_Some x e h) (sym (ready-push slots))

-- the slots before the first empty one are full
pub ready_full : (slots : List (Option Entry)) (k : ℕ) → k < length (ready_entries slots) → flat (slice_get slots k) ≡ None → ⊥
ready_full [] k below empty = omega arith
ready_full (None ∷ slots) k below empty = omega arith
ready_full (Some e ∷ slots) zero below empty = none-some e (sym empty)
ready_full (Some e ∷ slots) (suc k) below empty = ready_full slots k (omega arith) empty

-- the entry that waits under a number, by its slot
pub waiting_at : (next : ℕ) (slots : List (Option Entry)) (n k : ℕ) → n ≡ next + k → waiting_entry next slots n ≡ flat (slice_get slots k)
waiting_at next slots n k p =
    let place : n - next ≡ k = omega arith in
    cond-false (nat_lt n next) _ _ (le-ltb _ _ (omega arith)) ∙ ap (λ i. flat (slice_get slots i)) place

-- no number below the first empty slot's is missing
pub missing_from : (w : WindowState) (n : ℕ) → IsMissing w n → w.base + 1 + length (ready_entries w.slots) ≤ n
missing_from w n missing = elim (cases_lt n (w.base + 1 + length (ready_entries w.slots))) [
  | inl below ↦
      let above : w.base < n = missing.0 in
      let place : n ≡ (w.base + 1) + (n - (w.base + 1)) = omega arith in
      absurd (ready_full w.slots (n - (w.base + 1)) (omega arith) (sym (waiting_at (w.base + 1) w.slots n _ place) ∙ missing.2))
  | inr from ↦ from
]

-- the empty slots after the ready ones are the gap, as far as the tape was announced
pub the_gap : (w : WindowState) (full most count : ℕ) → full ≡ length (ready_entries w.slots) → w.base + 1 + full ≤ w.announced
    → most ≡ min (w.announced - (w.base + 1 + full) + 1) ASKED_MOST → count ≤ most
    → ((k : ℕ) → k < count → flat (slice_get w.slots (full + k)) ≡ None)
    → (count < most → is_some (flat (slice_get w.slots (full + count))) ≡ true)
    → IsGap w (w.base + 1 + full) count
the_gap w full most count at_first announced the_most within empty ends = record {
  least = λ n missing. let from = missing_from w n missing in omega arith;
  all = λ n from below.
      let place : n ≡ (w.base + 1) + (full + (n - (w.base + 1 + full))) = omega arith in
      (omega arith, omega arith, waiting_at (w.base + 1) w.slots n _ place ∙ empty (n - (w.base + 1 + full)) (omega arith));
  some = elim (cases_lt 0 count) [
    | inl more ↦ more
    | inr none ↦
        let zero' : full + count ≡ length (ready_entries w.slots) = omega arith in
        absurd (false≢true (sym (ap is_some (ap (λ i. flat (slice_get w.slots i)) zero' ∙ ready_empty w.slots)) ∙ ends (omega arith)))
  ];
  few = omega arith;
  ends = λ (short : count < ASKED_MOST) (missing : IsMissing w (w.base + 1 + full + count)).
      let reached : w.base + 1 + full + count ≤ w.announced = missing.1 in
      let place : w.base + 1 + full + count ≡ (w.base + 1) + (full + count) = omega arith in
      false≢true (sym (ap is_some (sym (waiting_at (w.base + 1) w.slots _ _ place) ∙ missing.2)) ∙ ends (omega arith));
}
  where
    ready_empty : (slots : List (Option Entry)) → flat (slice_get slots (length (ready_entries slots))) ≡ None
    ready_empty [] = refl
    ready_empty (None ∷ slots) = refl
    ready_empty (Some e ∷ slots) = ready_empty slots
