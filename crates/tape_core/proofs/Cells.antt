-- Shows what a list with one element replaced has at each index.
use Rattle.std.proofs.Common.{◌≡◌, ◌≢◌, ℕ, ◌<◌, ◌≤◌, zero, suc, List, [], ◌∷◌, ◌++◌, length, slice_get, slice_set, Option, Some, None, IfSome, inl, inr}
use Rattle.std.proofs.Common.{ap, ◌∙◌, sym, subst, arith}
use Rattle.std.proofs.lemmas.Bool.{cases_lt}
use Rattle.std.specs.List.{All}
use Rattle.std.proofs.lemmas.List.Elements.{All-append}
use Rattle.std.proofs.lemmas.List.{get_or-set_other, get_or-set_same, length-set}
use Rattle.std.proofs.lemmas.Option.{slice_get-get_or, slice_get_past}

-- the new element is there
pub get-set_same : {X : Type 0} (xs : List X) (k : ℕ) (x : X) → k < length xs → slice_get (slice_set xs k x) k ≡ Some x
get-set_same xs k x inside =
    slice_get-get_or (slice_set xs k x) k x (subst (λ n. k < n) (sym (length-set xs k x)) inside) ∙ ap Some (get_or-set_same xs k x x inside)

-- and the others stay
pub get-set_other : {X : Type 0} (xs : List X) (k j : ℕ) (x : X) → j ≢ k → slice_get (slice_set xs k x) j ≡ slice_get xs j
get-set_other xs k j x other = elim (cases_lt j (length xs)) [
  | inl inside ↦ slice_get-get_or (slice_set xs k x) j x (subst (λ n. j < n) (sym (length-set xs k x)) inside) ∙ ap Some (get_or-set_other xs k j x x other)
      ∙ sym (slice_get-get_or xs j x inside)
  | inr past ↦ slice_get_past (slice_set xs k x) j (subst (λ n. n ≤ j) (sym (length-set xs k x)) past) ∙ sym (slice_get_past xs j past)
]

-- a fact of the element that is there follows
pub IfSome-then : {X : Type 0} (P Q : X → Type 0) → ((x : X) → P x → Q x) → (o : Option X) → IfSome o P → IfSome o Q
IfSome-then P Q then None holds = tt
IfSome-then P Q then (Some x) holds = then x holds

-- a fact holds of one more element, as of the others
pub All-push : {X : Type 0} (P : X → Type 0) (xs : List X) (x : X) → All P xs → P x → All P (xs ++ x ∷ [])
All-push {X} P xs x holds here = All-append P xs (x ∷ []) holds one
  where
    one : All P (x ∷ [])
    one zero d within = here
    one (suc k) d within = absurd (omega arith)
