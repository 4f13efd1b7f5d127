-- Defines which lines an input loses while it is read.
use Rattle.std.specs.Prelude.{◌≡◌, ◌+◌, ℕ, List, ◌++◌, length, Option, Some, None}
use Rattle.batch.specs.Lines.{lines_of}

-- known bytes lose these lines at their front, and what they lost is counted as taken
abbrev pub TakesLines : Option (List ℕ) → Option (List ℕ) → ℕ → ℕ → List (List ℕ) → Type 0
TakesLines None left taken taken_now lines = Unit {0}
TakesLines (Some bytes) None taken taken_now lines = ⊥
TakesLines (Some bytes) (Some left) taken taken_now lines = (lines_of bytes ≡ lines ++ lines_of left) × (taken_now + length left ≡ taken + length bytes)
