-- Lemmas that a fold names no places except those of its reports.
use Rattle.std.proofs.Common.{ℕ, ◌≤◌, Bool, true, false, List, [], ◌∷◌, Option, Some, None, if◌then◌else◌, arith}
use Rattle.std.specs.Prelude.{All, fold, is_none, ◌&&◌}
use Rattle.std.proofs.lemmas.List.Elements.{All-head, All-tail}
use Rattle.scratch_fold.specs.declared.summary.Mark.{Mark}
use Rattle.scratch_fold.specs.declared.summary.Summary.{Summary}
use Rattle.scratch_fold.specs.Fold.{PlacedEffect, becomes_last, empty_summary, is_higher, is_lower, mark_of, step, summary_of}
use Rattle.scratch_fold.specs.Places.{HasPlacesUpTo, IsPlacedUpTo}

-- a figure stays, or becomes the mark of the report
figure-after : (most : ℕ) (counts : Bool) (r : PlacedEffect) (figure : Option Mark) → r.0 ≤ most → IsPlacedUpTo most figure
    → IsPlacedUpTo most (if counts then Some (mark_of r) else figure)
figure-after most true r figure low before = low
figure-after most false r figure low before = before

-- a mark's place that is at most some number is at most a greater one
figure-more : (less most : ℕ) (figure : Option Mark) → less ≤ most → IsPlacedUpTo less figure → IsPlacedUpTo most figure
figure-more less most None order low = tt
figure-more less most (Some m) order low = omega (arith, order, low)

-- the same holds for all marks of a summary
pub HasPlacesUpTo-more : (less most : ℕ) (z : Summary) → less ≤ most → HasPlacesUpTo less z → HasPlacesUpTo most z
HasPlacesUpTo-more less most z order low = record {
  opening = figure-more less most z.opening order low.opening;
  high = figure-more less most z.high order low.high;
  low = figure-more less most z.low order low.low;
  last = figure-more less most z.last order low.last;
}

-- one more report adds its own place alone
step-places : (most : ℕ) (z : Summary) (r : PlacedEffect) → r.0 ≤ most → HasPlacesUpTo most z → HasPlacesUpTo most (step z r)
step-places most z r low before = record {
  opening = figure-after most (becomes_last r.1.last r.1.who z.last && is_none z.last) r z.opening low before.opening;
  high = figure-after most (r.1.high_low && is_higher r.1.price z.high) r z.high low before.high;
  low = figure-after most (r.1.high_low && is_lower r.1.price z.low) r z.low low before.low;
  last = figure-after most (becomes_last r.1.last r.1.who z.last) r z.last low before.last;
}

-- further reports add their own places alone
steps-places : (most : ℕ) (reports : List PlacedEffect) (z : Summary) → All (λ r. r.0 ≤ most) reports → HasPlacesUpTo most z
    → HasPlacesUpTo most (fold step z reports)
steps-places most [] z low before = before
steps-places most (r ∷ reports) z low before =
    steps-places most reports (step z r) (All-tail (λ r. r.0 ≤ most) r reports low)
    (step-places most z r (All-head (λ r. r.0 ≤ most) r reports low) before)

-- the summary of reports names no place above theirs
pub summary_of-places : (most : ℕ) (reports : List PlacedEffect) → All (λ r. r.0 ≤ most) reports → HasPlacesUpTo most (summary_of reports)
summary_of-places most reports low = steps-places most reports empty_summary low (record { opening = tt; high = tt; low = tt; last = tt })
