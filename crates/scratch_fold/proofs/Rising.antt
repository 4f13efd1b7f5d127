-- Lemmas that no place in a list of reports is below its index, since the places rise.
use Rattle.std.proofs.Common.{◌≡◌, ℕ, zero, suc, ◌+◌, ◌<◌, ◌≤◌, List, length, slice_index, get_or, map, subst, sym, ap, ◌∙◌, arith}
use Rattle.std.proofs.lemmas.List.{get_or-map, length-map}
use Rattle.scratch_fold.specs.Fold.{PlacedEffect, PlacesRise}
use Rattle.std.specs.List.Sorted.{IsStrictlyIncreasing}
use Rattle.std.proofs.Math.Numerals.{add-one}

-- each number of a strictly increasing list is its index or more
pub IsStrictlyIncreasing-index : (xs : List ℕ) → IsStrictlyIncreasing xs → (k : ℕ) → k < length xs → k ≤ slice_index xs k
IsStrictlyIncreasing-index xs rising zero h = omega arith
IsStrictlyIncreasing-index xs rising (suc k) h =
    let below : k ≤ slice_index xs k = IsStrictlyIncreasing-index xs rising k (omega arith) in
    let next : slice_index xs k < slice_index xs (k + 1) = rising k (omega arith) in
    rw (← add-one k) (omega arith)

-- no place is below its report's index
pub PlacesRise-index : (reports : List PlacedEffect) → PlacesRise reports → (k : ℕ) (r : PlacedEffect) → k < length reports → r ≡ get_or reports k r → k ≤ r.0
PlacesRise-index reports rising k r inside at =
    let inside' : k < length (map (λ s. s.0) reports) = subst (λ n. k < n) (sym (length-map reports (λ s. s.0))) inside in
    let below : k ≤ get_or (map (λ s. s.0) reports) k 0 = IsStrictlyIncreasing-index (map (λ s. s.0) reports) rising k inside' in
    subst (λ n. k ≤ n) (get_or-map (λ s. s.0) reports k r 0 inside ∙ ap (λ s. s.0) (sym at)) below
