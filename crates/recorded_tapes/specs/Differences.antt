-- Defines where a text first differs from the one that it should be.
use Rattle.std.specs.Prelude.{◌≡◌, ◌≢◌, ◌++◌, ℕ, List, [], ◌∷◌, take}
use Rattle.csv_messages.specs.FaultTexts.{FAULT_TEXT_MOST}
use Rattle.recorded_tapes.specs.Places.{begun_field, place_behind, rest_of_field}
use Rattle.recorded_tapes.specs.declared.difference.Difference.{Difference}

-- the first bytes differ, or one text has none
abbrev pub AreApart : List ℕ → List ℕ → Type 0
AreApart [] [] = ⊥
AreApart [] (b ∷ right) = Unit {0}
AreApart (a ∷ left) [] = Unit {0}
AreApart (a ∷ left) (b ∷ right) = a ≢ b

-- the front of a field that begins in one text and goes on in another
abbrev pub field_over : List ℕ → List ℕ → List ℕ
field_over front behind = take FAULT_TEXT_MOST (begun_field front ++ rest_of_field behind)

-- a text differs from the one that it should be: after what both begin with the first bytes differ, and there they have these
-- fields
pub record IsDifference (stands wanted : List ℕ) (d : Difference) : Type 0 where
  pub front : List ℕ
  pub left : List ℕ
  pub right : List ℕ
  pub stands_is : stands ≡ front ++ left
  pub wanted_is : wanted ≡ front ++ right
  pub apart : AreApart left right
  pub line : d.line ≡ (place_behind front).line
  pub column : d.column ≡ (place_behind front).column
  pub field : d.stands ≡ field_over front left
  pub right_field : d.wanted ≡ field_over front right
