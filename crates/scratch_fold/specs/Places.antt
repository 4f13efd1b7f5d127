-- Bounds on the places that a summary names.
use Rattle.std.specs.Prelude.{ℕ, ◌≤◌, Option, IfSome}
use Rattle.scratch_fold.specs.declared.summary.Mark.{Mark}
use Rattle.scratch_fold.specs.declared.summary.Summary.{Summary}

-- a mark, if there is one, has a place that is at most this
abbrev pub IsPlacedUpTo : ℕ → Option Mark → Type 0
IsPlacedUpTo most figure = IfSome figure (λ m. m.place ≤ most)

-- no mark of a summary has a place above this
pub record HasPlacesUpTo (most : ℕ) (z : Summary) : Type 0 where
  pub opening : IsPlacedUpTo most z.opening
  pub high : IsPlacedUpTo most z.high
  pub low : IsPlacedUpTo most z.low
  pub last : IsPlacedUpTo most z.last
