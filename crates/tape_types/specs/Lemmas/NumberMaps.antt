-- Keys that are numbers, compared by their order, and finite maps by such keys.
use Rattle.std.proofs.Common.{◌≡◌, ℕ, ◌≢◌, true, false, cond, Option, Some, None, refl, sym, ap, ◌∙◌, arith}
use Rattle.std.specs.Ordering.{nat_cmp, eq_by_cmp}
use Rattle.std.specs.Cmp.{nat_cmp_total}
use Rattle.std.specs.FinMap as map
use Rattle.std.specs.FinMap.{nat_cmp-IsAntisymmetric}
use Rattle.std.proofs.lemmas.Bool.Decides.{nat_tests}

-- keys that compare as equal are the same key
pub same_key : (n m : ℕ) → eq_by_cmp nat_cmp n m ≡ true → n ≡ m
same_key n m e = grind (arith, nat_tests)

-- a key compares as equal with itself
pub key_itself : (n : ℕ) → eq_by_cmp nat_cmp n n ≡ true
key_itself n = grind (arith, nat_tests)

-- another key does not compare as equal
pub other_key : (n m : ℕ) → n ≢ m → eq_by_cmp nat_cmp n m ≡ false
other_key n m h = grind (arith, nat_tests)

-- inserting at a vacant key and removing it again leaves the map as it was
pub remove-insert : {X : Type 0} (m : map.FinMap nat_cmp X) (k : ℕ) (v : X) → map.get m k ≡ None → map.remove (map.insert m k v) k ≡ m
remove-insert {X = X} m k v vacant = map.same_map nat_cmp_total nat_cmp-IsAntisymmetric _ _ (λ q.
    map.get-remove nat_cmp_total (map.insert m k v) k q
    ∙ ap (λ (o : Option X). cond (eq_by_cmp nat_cmp q k) None o) (map.get-insert nat_cmp_total m k v q)
    ∙ elim (eq_by_cmp nat_cmp q k) as (λ b. eq_by_cmp nat_cmp q k ≡ b → cond b None (cond b (Some v) (map.get m q)) ≡ map.get m q) [
      | true ↦ λ same. sym (ap (map.get m) (same_key q k same) ∙ vacant)
      | false ↦ λ _. refl
    ] refl)
