-- Reports in ascending order of place, by recursion over their list.
use Rattle.std.proofs.Common.{ℕ, suc, ◌<◌, List, [], ◌∷◌, slice_index, map as map_list, subst, arith, add-one}
use Rattle.std.specs.Prelude.{T}
use Rattle.std.specs.Ordering.{nat_cmp, is_lt}
use Rattle.std.specs.FinMap as map
use Rattle.std.specs.FinMap.Entries.{is_sorted, below_all}
use Rattle.tape_types.specs.Lemmas.RisingEntries.{and_left, and_rest, lt_from}
use Rattle.scratch_fold.specs.Fold.{PlacedEffect, PlacesRise}
use Rattle.summaries.specs.Effects.{Effects}

-- every place of rs is above n
abbrev pub AllAfter : ℕ → List PlacedEffect → Type 0
AllAfter n [] = Unit {0}
AllAfter n (r ∷ rs) = (n < r.0) × AllAfter n rs

-- each place is above those before it
abbrev pub Ascends : List PlacedEffect → Type 0
Ascends [] = Unit {0}
Ascends (r ∷ rs) = AllAfter r.0 rs × Ascends rs

-- the order of a sorted list, head by head
after_from : (n : ℕ) (es : List PlacedEffect) → T (below_all nat_cmp n es) → AllAfter n es
after_from n [] h = tt
after_from n (e ∷ es) h = (lt_from n e.0 (and_left _ _ h), after_from n es (and_rest (is_lt (nat_cmp n e.0)) _ h))

-- a sorted list ascends
rise_from : (es : List PlacedEffect) → T (is_sorted nat_cmp es) → Ascends es
rise_from [] h = tt
rise_from (e ∷ es) h = (after_from e.0 es (and_left _ _ h), rise_from es (and_rest (below_all nat_cmp e.0 es) _ h))

-- a map's entries rise
pub rise : (m : Effects) → Ascends (map.entries m)
rise m = rise_from (map.entries m) (map.entries_sorted m)

-- what is above a place is above each lower one
after-lower : (m n : ℕ) (rs : List PlacedEffect) → m < n → AllAfter n rs → AllAfter m rs
after-lower m n [] lt up = tt
after-lower m n (r ∷ rs) lt up = (let above : n < r.0 = up.0 in omega arith, after-lower m n rs lt up.1)

-- places that strictly increase by their indices ascend
pub ascends : (rs : List PlacedEffect) → PlacesRise rs → Ascends rs
ascends [] up = tt
ascends (r ∷ []) up = (tt, tt)
ascends (r ∷ s ∷ rs) up =
    let first : r.0 < s.0 = up 0 (omega arith) in
    let rest : Ascends (s ∷ rs) =
    ascends (s ∷ rs) (λ k lt. rw (add-one k)
    (subst (λ (n : ℕ). slice_index (map_list (λ (x : PlacedEffect). x.0) (r ∷ s ∷ rs)) (suc k) < slice_index
    (map_list (λ (x : PlacedEffect). x.0) (r ∷ s ∷ rs)) n) (add-one (suc k)) (up (suc k) (omega arith)))) in
    ((first, after-lower r.0 s.0 rs first rest.0), rest)
