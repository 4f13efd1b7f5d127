-- Slots whose entries are those of a list, each at its place.
use Rattle.std.proofs.Common.{◌≡◌, ℕ, zero, suc, ◌+◌, List, [], ◌∷◌, ◌++◌, Option, None, Some, refl, sym, ap, subst, ◌∙◌, arith}
use Rattle.std.specs.Prelude.{slice_get, replicate, IfSome}
use Rattle.std.specs.Option.{option_or}
use Rattle.std.proofs.lemmas.Option.{none-some, same_Some}
use Rattle.tape_core.specs.declared.entry.Entry.{Entry}
use Rattle.arbitration.specs.Deliveries.{entry_numbered, slots_after}
use Rattle.arbitration.specs.Windows.{flat}

-- each slot is empty or holds the list's entry at its place
abbrev pub FromDue : List (Option Entry) → List Entry → Type 0
FromDue [] due = Unit {0}
FromDue (slot ∷ slots) [] = (slot ≡ None) × FromDue slots []
FromDue (slot ∷ slots) (e ∷ due) = IfSome slot (λ other. other ≡ e) × FromDue slots due

-- empty slots fit any list
pub FromDue-replicate : (n : ℕ) (due : List Entry) → FromDue (replicate n None) due
FromDue-replicate zero due = tt
FromDue-replicate (suc n) [] = (refl, FromDue-replicate n [])
FromDue-replicate (suc n) (e ∷ due) = (tt, FromDue-replicate n due)

-- and stay so when the list goes on
pub FromDue-grow : (slots : List (Option Entry)) (due more : List Entry) → FromDue slots due → FromDue slots (due ++ more)
FromDue-grow [] due more h = tt
FromDue-grow (slot ∷ slots) [] [] h = h
FromDue-grow (slot ∷ slots) [] (e ∷ more) h = (subst (λ o. IfSome o (λ other. other ≡ e)) (sym h.0) tt, FromDue-grow slots [] more h.1)
FromDue-grow (slot ∷ slots) (e ∷ due) more h = (h.0, FromDue-grow slots due more h.1)

-- and when empty slots are added
pub FromDue-append : (slots : List (Option Entry)) (n : ℕ) (due : List Entry) → FromDue slots due → FromDue (slots ++ replicate n None) due
FromDue-append [] n due h = FromDue-replicate n due
FromDue-append (slot ∷ slots) n [] h = (h.0, FromDue-append slots n [] h.1)
FromDue-append (slot ∷ slots) n (e ∷ due) h = (h.0, FromDue-append slots n due h.1)

-- a slot after it takes the packet's entry of its number
slot_from : (slot found : Option Entry) (e : Entry) → IfSome slot (λ other. other ≡ e) → ((x : Entry) → found ≡ Some x → x ≡ e)
    → IfSome (option_or slot found) (λ other. other ≡ e)
slot_from (Some y) found e h is = h
slot_from None (Some x) e h is = is x refl
slot_from None None e h is = tt

-- a slot stays empty if the packet has no entry of its number
slot_none : (slot found : Option Entry) → slot ≡ None → ((x : Entry) → found ≡ Some x → ⊥) → option_or slot found ≡ None
slot_none (Some y) found h is = h
slot_none None (Some x) h is = absurd (is x refl)
slot_none None None h is = refl

-- and after a packet whose entries are of the list
pub FromDue-slots_after : (next : ℕ) (slots : List (Option Entry)) (due es : List Entry) → FromDue slots due
    → ((k : ℕ) (e : Entry) → entry_numbered (next + k) es ≡ Some e → slice_get due k ≡ Some e) → FromDue (slots_after next slots es) due
FromDue-slots_after next [] due es h is = tt
FromDue-slots_after next (slot ∷ slots) [] es h is =
    let at_next : next ≡ next + 0 = omega arith in (
      slot_none slot (entry_numbered next es) h.0 (λ x found. none-some x (is 0 x (ap (λ n. entry_numbered n es) (sym at_next) ∙ found))),
      FromDue-slots_after (next + 1) slots [] es h.1 (λ k e found.
          let later : (next + 1) + k ≡ next + suc k = omega arith in
          is (suc k) e (ap (λ n. entry_numbered n es) (sym later) ∙ found)),
    )
FromDue-slots_after next (slot ∷ slots) (d ∷ due) es h is =
    let at_next : next ≡ next + 0 = omega arith in (
      slot_from slot (entry_numbered next es) d h.0 (λ x found. sym (same_Some d x (is 0 x (ap (λ n. entry_numbered n es) (sym at_next) ∙ found)))),
      FromDue-slots_after (next + 1) slots due es h.1 (λ k e found.
          let later : (next + 1) + k ≡ next + suc k = omega arith in
          is (suc k) e (ap (λ n. entry_numbered n es) (sym later) ∙ found)),
    )

-- the waiting entries are from the list
pub FromDue-at : (slots : List (Option Entry)) (due : List Entry) (k : ℕ) (e : Entry) → FromDue slots due
    → flat (slice_get slots k) ≡ Some e → slice_get due k ≡ Some e
FromDue-at [] due k e h found = absurd (none-some e found)
FromDue-at (slot ∷ slots) [] zero e h found = absurd (none-some e (sym h.0 ∙ found))
FromDue-at (slot ∷ slots) [] (suc k) e h found = FromDue-at slots [] k e h.1 found
FromDue-at (None ∷ slots) (d ∷ due) zero e h found = absurd (none-some e found)
FromDue-at (Some x ∷ slots) (d ∷ due) zero e h found = ap Some (sym h.0) ∙ found
FromDue-at (slot ∷ slots) (d ∷ due) (suc k) e h found = FromDue-at slots due k e h.1 found
