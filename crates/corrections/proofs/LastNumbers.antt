-- A lemma about the row of the last message numbers, which begins as zeros.
use Rattle.std.proofs.Common.{◌≡◌, ℕ, zero, suc, refl}
use Rattle.std.specs.Prelude.{replicate, slice_index}

-- a row of zeros has 0 at every index
pub slice_index-replicate_zero : (n k : ℕ) → slice_index (replicate n 0) k ≡ 0
slice_index-replicate_zero zero k = refl
slice_index-replicate_zero (suc n) zero = refl
slice_index-replicate_zero (suc n) (suc k) = slice_index-replicate_zero n k
