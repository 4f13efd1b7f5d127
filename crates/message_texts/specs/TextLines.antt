-- Defines which lines a reader loses.
use Rattle.std.specs.Prelude.{◌≡◌, ℕ, List, ◌++◌, Option, Some, None}
use Rattle.batch.specs.Lines.{lines_of}

-- known bytes lose these lines at their front
abbrev pub TakesLines : Option (List ℕ) → Option (List ℕ) → List (List ℕ) → Type 0
TakesLines None left lines = Unit {0}
TakesLines (Some bytes) None lines = ⊥
TakesLines (Some bytes) (Some left) lines = lines_of bytes ≡ lines ++ lines_of left
