-- The fault that is returned of those that were met one after the other.
use Rattle.std.proofs.Common.{◌≡◌, ℕ, ◌+◌, ◌<◌, ◌≤◌, List, [], ◌∷◌, ◌++◌, length, map, take, get_or, Option, Some, None, inl, inr, arith, refl, sym, ap, subst, ◌∙◌}
use Rattle.std.specs.Prelude.{All, Contains, IfSome, ◌⊎◌, ◌↔◌}
use Rattle.std.proofs.lemmas.List.{map-append, take_all, take_more}
use Rattle.std.proofs.lemmas.List.Elements.{All-nil, All-push, Contains-append_left, Contains-push}
use Rattle.feed_ends.specs.Faults.{fault_status}
use Rattle.feed_ends.specs.declared.fault.Fault.{Fault}
use Rattle.live_feed.specs.Faults.{IsLeast, NoneBefore}

-- none of nothing
pub least_of_none : IsLeast [] None
least_of_none = record { none = ((λ is. All-nil (λ fault. fault ≡ None)), λ all. refl); one = tt; least = tt }

-- if none is met before a fault, none is met before a lesser one
before_lesser : (lesser fault : Fault) (met : Option Fault) → fault_status lesser ≤ fault_status fault → NoneBefore fault met → NoneBefore lesser met
before_lesser lesser fault None le before = tt
before_lesser lesser fault (Some other) le before = omega arith

-- what does not come after the result does not come after what was met
before_all : (fault : Fault) (answer : Option Fault) (met : List (Option Fault)) → IsLeast met answer → NoneBefore fault answer → All (NoneBefore fault) met
before_all fault None met is before = λ k d lt. subst (NoneBefore fault) (sym (is.none.0 refl k d lt)) tt
before_all fault (Some answer) met is before = λ k d lt. before_lesser fault answer (get_or met k d) before (is.least k d lt)

-- a fault that was met is not none
met_some : (fault : Fault) (met : List (Option Fault)) → Contains met (Some fault) → All (λ one. one ≡ None) met → Some fault ≡ None
met_some fault met found all = let is = all found.0 (Some fault) found.1 in sym found.2 ∙ is

-- the result is the one before or that of one more
answered : (fault : Fault) (before one : Option Fault) (met : List (Option Fault)) → IsLeast met before → (before ≡ Some fault) ⊎ (one ≡ Some fault)
    → Contains (met ++ one ∷ []) (Some fault)
answered fault before one met is either = elim either [
  | inl same ↦ Contains-append_left met (one ∷ []) (Some fault) (subst (λ (b : Option Fault). IfSome b (λ f. Contains met (Some f))) same is.one)
  | inr same ↦ subst (λ (o : Option Fault). Contains (met ++ one ∷ []) o) same (Contains-push met one)
]

-- the lesser of the result so far and one more
pub least_more : (met : List (Option Fault)) (before one answer : Option Fault) → IsLeast met before
    → (answer ≡ None) ↔ ((before ≡ None) × (one ≡ None))
    → IfSome answer (λ fault. (before ≡ Some fault) ⊎ (one ≡ Some fault))
    → IfSome answer (λ fault. IfSome before (λ f. fault_status fault ≤ fault_status f))
    → IfSome answer (λ fault. IfSome one (λ f. fault_status fault ≤ fault_status f))
    → IsLeast (met ++ one ∷ []) answer
least_more met before one None is none either first second = record {
  none = (
    (λ same. All-push (λ fault. fault ≡ None) met one (is.none.0 (none.0 refl).0) (none.0 refl).1),
    λ all. refl,
  );
  one = tt;
  least = tt;
}
least_more met before one (Some fault) is none either first second =
    let found : Contains (met ++ one ∷ []) (Some fault) = answered fault before one met is either in
    record {
      none = ((λ (same : Some fault ≡ None). cc), λ all. met_some fault (met ++ one ∷ []) found all);
      one = found;
      least = All-push (NoneBefore fault) met one (before_all fault before met is first) second;
    }

-- the fault of one more element of a list
pub least_next : {X : Type 0} (f : X → Option Fault) (xs : List X) (i : ℕ) (x : X) (before one answer : Option Fault) → i < length xs → x ≡ get_or xs i x
    → one ≡ f x → IsLeast (map f (take i xs)) before
    → (answer ≡ None) ↔ ((before ≡ None) × (one ≡ None))
    → IfSome answer (λ fault. (before ≡ Some fault) ⊎ (one ≡ Some fault))
    → IfSome answer (λ fault. IfSome before (λ f. fault_status fault ≤ fault_status f))
    → IfSome answer (λ fault. IfSome one (λ f. fault_status fault ≤ fault_status f))
    → IsLeast (map f (take (i + 1) xs)) answer
least_next f xs i x before one answer lt is one_is so_far none either first second =
    let more : take (i + 1) xs ≡ take i xs ++ x ∷ [] = take_more xs i x lt ∙ ap (λ y. take i xs ++ y ∷ []) (sym is) in
    let all : map f (take (i + 1) xs) ≡ map f (take i xs) ++ one ∷ [] =
    ap (map f) more ∙ map-append f (take i xs) (x ∷ []) ∙ ap (λ (o : Option Fault). map f (take i xs) ++ o ∷ []) (sym one_is) in
    subst (λ (met : List (Option Fault)). IsLeast met answer) (sym all)
    (least_more (map f (take i xs)) before one answer so_far none either first second)

-- the fault of all elements
pub least_whole : {X : Type 0} (f : X → Option Fault) (xs : List X) (i : ℕ) (answer : Option Fault) → length xs ≤ i → IsLeast (map f (take i xs)) answer
    → IsLeast (map f xs) answer
least_whole f xs i answer all is = subst (λ ys. IsLeast (map f ys) answer) (take_all i xs all) is

-- the fault of one alone
least_of_one : (one : Option Fault) → IsLeast (one ∷ []) one
least_of_one None = least_more [] None None None least_of_none ((λ is. (refl, refl)), λ both. refl) tt tt tt
least_of_one (Some fault) = least_more [] None (Some fault) (Some fault) least_of_none
    ((λ same. (refl, same)), λ both. both.1) (inr refl) tt (omega arith)

-- the lesser of two
pub least_of_two : (one other answer : Option Fault)
    → (answer ≡ None) ↔ ((one ≡ None) × (other ≡ None))
    → IfSome answer (λ fault. (one ≡ Some fault) ⊎ (other ≡ Some fault))
    → IfSome answer (λ fault. IfSome one (λ f. fault_status fault ≤ fault_status f))
    → IfSome answer (λ fault. IfSome other (λ f. fault_status fault ≤ fault_status f))
    → IsLeast (one ∷ other ∷ []) answer
least_of_two one other answer = least_more (one ∷ []) one other answer (least_of_one one)
