-- The effect of one report on a summary, and the summary of a list of reports.
use Rattle.std.specs.Prelude.{ℕ, ◌+◌, ◌==◌, nat_lt, Bool, true, false, ◌&&◌, List, Option, Some, None, is_none, fold, map, if◌then◌else◌}
use Rattle.std.specs.List.Sorted.{IsStrictlyIncreasing}
use Rattle.scratch_fold.specs.declared.summary.Mark.{Mark}
use Rattle.scratch_fold.specs.declared.summary.Summary.{Summary}
use Rattle.scratch_fold.specs.declared.summary.Effect.{Effect}
use Rattle.sale_matrix.specs.declared.matrix.LastRule.{LastRule}
use Rattle.sale_matrix.specs.declared.matrix.LastRule.TheVariants.{Always, SameMarket, FirstOnly, Never}

-- a report that stands: its place and its effect
abbrev pub PlacedEffect : Type 0
PlacedEffect = ℕ × Effect

-- the place of each report is above those of the reports before it
abbrev pub PlacesRise : List PlacedEffect → Type 0
PlacesRise reports = IsStrictlyIncreasing (map (λ r. r.0) reports)

-- the mark of a report
abbrev pub mark_of : PlacedEffect → Mark
mark_of r = record { price = r.1.price; place = r.0; who = r.1.who }

-- whether a price is strictly above the high, or there is none
abbrev pub is_higher : ℕ → Option Mark → Bool
is_higher price None = true
is_higher price (Some high) = nat_lt high.price price

-- whether a price is strictly below the low, or there is none
abbrev pub is_lower : ℕ → Option Mark → Bool
is_lower price None = true
is_lower price (Some low) = nat_lt price low.price

-- whether a report becomes the last one, by its last cell and the last one so far
abbrev pub becomes_last : LastRule → ℕ → Option Mark → Bool
becomes_last Always who last = true
becomes_last SameMarket who None = true
becomes_last SameMarket who (Some last) = last.who == who
becomes_last FirstOnly who last = is_none last
becomes_last Never who last = false

-- the summary of no report
abbrev pub empty_summary : Summary
empty_summary = record { opening = None; high = None; low = None; last = None; volume = 0; trades = 0 }

-- the summary after one more report
abbrev pub step : Summary → PlacedEffect → Summary
step z r =
    let mark = Some (mark_of r) in
    let is_last = becomes_last r.1.last r.1.who z.last in
    record {
      opening = if is_last && is_none z.last then mark else z.opening;
      high = if r.1.high_low && is_higher r.1.price z.high then mark else z.high;
      low = if r.1.high_low && is_lower r.1.price z.low then mark else z.low;
      last = if is_last then mark else z.last;
      volume = z.volume + (if r.1.volume then r.1.size else 0);
      trades = z.trades + 1;
    }

-- the summary of a list of reports
abbrev pub summary_of : List PlacedEffect → Summary
summary_of reports = fold step empty_summary reports
