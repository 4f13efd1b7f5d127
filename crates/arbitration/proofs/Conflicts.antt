-- What is known under a number, and the first entry that does not agree with it.
use Rattle.std.proofs.Common.{◌≡◌, ℕ, ◌+◌, ◌-◌, ◌≤◌, ◌<◌, List, length, take, get_or, length-take, Option, None, Some, refl, sym, ap, subst, ◌∙◌, arith}
use Rattle.std.specs.Bool.{Decides}
use Rattle.std.specs.Borrow.{Bor}
use Rattle.std.specs.Option.{option_map}
use Rattle.std.specs.Slice.{IsItemAt}
use Rattle.std.specs.Prelude.{All, IfSome, nat_lt, slice_get}
use Rattle.std.proofs.lemmas.Bool.{cond-true, cond-false, le-ltb, lt-ltb}
use Rattle.std.proofs.lemmas.List.{get_or_default, get_or-take}
use Rattle.std.proofs.lemmas.Option.{slice_get-get_or, slice_get_past, slice_get_read}
use Rattle.tape_core.specs.declared.entry.Entry.{Entry}
use Rattle.tape_core.specs.Laws.{entry_eq}
use Rattle.tape_core.specs.Lemmas.Equality.{entry-Decides}
use Rattle.tape_frames.specs.PacketEntries.{IsNumberedFrom}
use Rattle.tape_frames.specs.Lemmas.Numbers.{number_at_place}
use Rattle.arbitration.specs.Windows.{flat}
use Rattle.arbitration.specs.Deliveries.{known_entry, Agrees, IsLeastConflict}

-- if an entry is known under its number, an entry agrees if and only if the two are equal
pub agrees_known : (held : List Entry) (next : ℕ) (slots : List (Option Entry)) (e other : Entry) → known_entry held next slots e.number ≡ Some other
    → Decides (entry_eq other e) (Agrees held next slots e)
agrees_known held next slots e other known =
    let decides = entry-Decides other e in (
      λ same. subst (λ o. IfSome o (λ x. x ≡ e)) (sym known) (decides.0 same),
      λ agrees. decides.1 (subst (λ o. IfSome o (λ x. x ≡ e)) known agrees),
    )

-- what is known under a number that was taken out
pub known_held : (held : List Entry) (base : ℕ) (slots : List (Option Entry)) (n : ℕ) (other : Entry) → length held ≡ base → 1 ≤ n → n ≤ base
    → other ≡ get_or held (n - 1) other → known_entry held (base + 1) slots n ≡ Some other
known_held held base slots n other size some within is =
    cond-true (nat_lt n (base + 1)) _ _ (lt-ltb _ _ (omega arith)) ∙ slice_get-get_or held (n - 1) other (omega arith) ∙ ap Some (sym is)

-- what is known under a number that was not taken out
pub known_waiting : (held : List Entry) (base : ℕ) (slots : List (Option Entry)) (n : ℕ) → base < n
    → known_entry held (base + 1) slots n ≡ flat (slice_get slots (n - base - 1))
known_waiting held base slots n above =
    let place : n - (base + 1) ≡ n - base - 1 = omega arith in
    cond-false (nat_lt n (base + 1)) _ _ (le-ltb _ _ (omega arith)) ∙ ap (λ i. flat (slice_get slots i)) place

-- a look-up among the slots returns the slot at the index
pub slot_got : (slots : List (Option Entry)) (i : ℕ) (r : Option (Bor (Option Entry))) → IsItemAt slots i r
    → flat (slice_get slots i) ≡ flat (option_map (λ (x : Bor (Option Entry)). x.now) r)
slot_got slots i None h = ap flat (slice_get_past slots i h.3)
slot_got slots i (Some x) h = ap flat (slice_get_read slots (length slots) i x.now refl h.3.0 h.1)

-- the first entry that does not agree has the least such number
pub least_conflict : (held : List Entry) (next first : ℕ) (slots : List (Option Entry)) (es : List Entry) (i : ℕ) (d : Entry)
    → IsNumberedFrom first es → i < length es → All (Agrees held next slots) (take i es) → (Agrees held next slots (get_or es i d) → ⊥)
    → IsLeastConflict held next slots es (get_or es i d).number
least_conflict held next first slots es i d numbers within so_far differs = record {
  entry = get_or es i d;
  sent = (i, within, get_or_default es i _ d within);
  number = refl;
  differs = differs;
  least = λ k x k_within below.
      let at_k = number_at_place first es k (get_or es k x) numbers (slice_get-get_or es k x k_within) in
      let at_i = number_at_place first es i (get_or es i d) numbers (slice_get-get_or es i d within) in
      let before : k < i = omega arith in
      subst (Agrees held next slots) (get_or-take i es k x before) (so_far k x (omega (arith, length-take i es)));
}
