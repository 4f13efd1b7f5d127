-- The participants of a listing are listed.
use Rattle.std.proofs.Common.{◌≡◌, ◌++◌, ◌∷◌, ◌==◌, [], ℕ, List, Bool, refl, subst, append_assoc, true, inl, inr}
use Rattle.std.specs.List.{AllByRecursion, list_any}
use Rattle.std.proofs.lemmas.Bool.{cases_Bool, eq-eqb}
use Rattle.tape_types.specs.Names.{Names}
use Rattle.tape_core.specs.Tape.{lists_participant}

-- if an element in the middle passes a test, some element does
list_any-middle : {X : Type 0} (p : X → Bool) (before : List X) (x : X) (after : List X) → p x ≡ true → list_any p (before ++ x ∷ after) ≡ true
list_any-middle p [] x after here = rw here refl
list_any-middle p (y ∷ before) x after here = elim (cases_Bool (p y)) [
  | inl passes ↦ rw passes refl
  | inr fails ↦ rw fails (list_any-middle p before x after here)
]

-- each element equals one of the list
each_among : {X : Type 0} (eq : X → X → Bool) → ((x : X) → eq x x ≡ true) → (before xs : List X)
    → AllByRecursion (λ x. list_any (λ y. eq x y) (before ++ xs) ≡ true) xs
each_among eq eq-refl before [] = tt
each_among {X} eq eq-refl before (x ∷ xs) = (
  list_any-middle (λ y. eq x y) before x xs (eq-refl x),
  subst (λ (all : List X). AllByRecursion (λ x. list_any (λ y. eq x y) all ≡ true) xs) (append_assoc before (x ∷ []) xs)
      (each_among eq eq-refl (before ++ x ∷ []) xs),
)

-- each of these participants is listed
abbrev pub AreParticipants : Names → List ℕ → Type 0
AreParticipants listing participants = AllByRecursion (λ w. lists_participant listing w ≡ true) participants

-- the participants of a listing are listed
pub AreParticipants-all : (listing : Names) → AreParticipants listing listing.participants
AreParticipants-all listing = each_among (λ a b. a == b) (λ n. eq-eqb n n refl) [] listing.participants
