-- Lemmas about when two keys of the targets, each a participant and a number, are equal.
use Rattle.std.proofs.Common.{◌≡◌, ◌≢◌, ℕ, ◌==◌, Bool, false, ◌&&◌, arith}
use Rattle.std.specs.Ordering.{nat_cmp, eq_by_cmp}
use Rattle.std.proofs.lemmas.Bool.Decides.{nat_tests}
use Rattle.tape_types.specs.Pairs.{pair_cmp}

-- whether two keys are equal in both parts
abbrev pub key_eq : ℕ × ℕ → ℕ × ℕ → Bool
key_eq p q = (p.0 == q.0) && (p.1 == q.1)

-- the order and the equality of the keys agree
pub ties : (p q : ℕ × ℕ) → eq_by_cmp pair_cmp p q ≡ key_eq p q
ties p q = grind (arith, nat_tests)

-- keys of one participant are equal exactly if their numbers are
pub tied-same : (w n v m : ℕ) → w ≡ v → eq_by_cmp pair_cmp (w, n) (v, m) ≡ eq_by_cmp nat_cmp n m
tied-same w n v m same = grind (arith, nat_tests)

-- keys of two participants are not equal
pub tied-other : (w n v m : ℕ) → w ≢ v → eq_by_cmp pair_cmp (w, n) (v, m) ≡ false
tied-other w n v m other = grind (arith, nat_tests)
