-- A lemma about the shares that a report adds to a volume.
use Rattle.std.proofs.Common.{ℕ, ◌≤◌, Bool, true, false, if◌then◌else◌, arith}

-- a report adds no more than its size
pub counted-within : (counts : Bool) (size : ℕ) → (if counts then size else 0) ≤ size
counted-within true size = omega arith
counted-within false size = omega arith
