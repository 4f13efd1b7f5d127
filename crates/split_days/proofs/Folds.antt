-- A fold chooses its marks without looking at places: reports that differ only in their places have the same figures, at the
-- places of the same reports.
use Rattle.std.proofs.Common.{◌≡◌, ℕ, ◌+◌, Bool, true, false, List, [], ◌∷◌, Option, Some, None, if◌then◌else◌, fold, refl, ap, subst}
use Rattle.std.specs.Prelude.{nat_lt, ◌==◌, is_none, ◌&&◌}
use Rattle.std.specs.List.{AllZip}
use Rattle.sale_matrix.specs.declared.matrix.LastRule.{LastRule}
use Rattle.sale_matrix.specs.declared.matrix.LastRule.TheVariants.{Always, SameMarket, FirstOnly, Never}
use Rattle.scratch_fold.specs.declared.summary.Mark.{Mark}
use Rattle.scratch_fold.specs.declared.summary.Summary.{Summary}
use Rattle.scratch_fold.specs.declared.summary.Effect.{Effect}
use Rattle.scratch_fold.specs.Fold.{PlacedEffect, becomes_last, empty_summary, is_higher, is_lower, mark_of, step, summary_of}
use Rattle.split_days.specs.Split.{IsSameMark, IsSameFigure, IsSameSummary}

module _ (SamePlace : ℕ → ℕ → Type 0) where
  -- two reports have the same effect, at matching places
  pub record IsSameReport (a b : PlacedEffect) : Type 0 where
    pub place : SamePlace a.0 b.0
    pub effect : a.1 ≡ b.1

  -- ## The tests of a step

  -- whether there is a figure
  none-same : (f g : Option Mark) → IsSameFigure SamePlace f g → is_none f ≡ is_none g
  none-same None None same = refl
  none-same None (Some b) same = absurd same
  none-same (Some a) None same = absurd same
  none-same (Some a) (Some b) same = refl

  -- whether a report becomes the last
  last-same : (rule : LastRule) (who : ℕ) (f g : Option Mark) → IsSameFigure SamePlace f g → becomes_last rule who f ≡ becomes_last rule who g
  last-same rule who None None same = refl
  last-same rule who None (Some b) same = absurd same
  last-same rule who (Some a) None same = absurd same
  last-same Always who (Some a) (Some b) same = refl
  last-same SameMarket who (Some a) (Some b) same = ap (λ w. w == who) same.who
  last-same FirstOnly who (Some a) (Some b) same = refl
  last-same Never who (Some a) (Some b) same = refl

  -- whether a price is above the high
  higher-same : (price : ℕ) (f g : Option Mark) → IsSameFigure SamePlace f g → is_higher price f ≡ is_higher price g
  higher-same price None None same = refl
  higher-same price None (Some b) same = absurd same
  higher-same price (Some a) None same = absurd same
  higher-same price (Some a) (Some b) same = ap (λ high. nat_lt high price) same.price

  -- whether a price is below the low
  lower-same : (price : ℕ) (f g : Option Mark) → IsSameFigure SamePlace f g → is_lower price f ≡ is_lower price g
  lower-same price None None same = refl
  lower-same price None (Some b) same = absurd same
  lower-same price (Some a) None same = absurd same
  lower-same price (Some a) (Some b) same = ap (λ low. nat_lt price low) same.price

  -- ## A step, and a fold

  -- a figure stays, or becomes the mark of the report, on both sides
  figure-same : (a b : Mark) (f g : Option Mark) (c d : Bool) → IsSameMark SamePlace a b → IsSameFigure SamePlace f g → c ≡ d
      → IsSameFigure SamePlace (if c then Some a else f) (if d then Some b else g)
  figure-same a b f g c d mark same agree =
      subst (λ e. IsSameFigure SamePlace (if c then Some a else f) (if e then Some b else g)) agree
      (elim c as (λ e. IsSameFigure SamePlace (if e then Some a else f) (if e then Some b else g)) [
        | true ↦ mark
        | false ↦ same
      ])

  -- one more report, at either place
  placed-same : (z y : Summary) (here there : ℕ) (e : Effect) → SamePlace here there → IsSameSummary SamePlace z y
      → IsSameSummary SamePlace (step z (here, e)) (step y (there, e))
  placed-same z y here there e places same =
      let mark : IsSameMark SamePlace (mark_of (here, e)) (mark_of (there, e)) = record { place = places; price = refl; who = refl } in
      let last : becomes_last e.last e.who z.last ≡ becomes_last e.last e.who y.last = last-same e.last e.who z.last y.last same.last in
      record {
        opening = figure-same (mark_of (here, e)) (mark_of (there, e)) z.opening y.opening _ _ mark same.opening
            (λ i. last i && none-same z.last y.last same.last i);
        high = figure-same (mark_of (here, e)) (mark_of (there, e)) z.high y.high _ _ mark same.high
            (λ i. e.high_low && higher-same e.price z.high y.high same.high i);
        low = figure-same (mark_of (here, e)) (mark_of (there, e)) z.low y.low _ _ mark same.low
            (λ i. e.high_low && lower-same e.price z.low y.low same.low i);
        last = figure-same (mark_of (here, e)) (mark_of (there, e)) z.last y.last _ _ mark same.last last;
        volume = ap (λ v. v + (if e.volume then e.size else 0)) same.volume;
        trades = ap (λ n. n + 1) same.trades;
      }

  -- one more report on each side
  step-same : (z y : Summary) (a b : PlacedEffect) → IsSameReport a b → IsSameSummary SamePlace z y → IsSameSummary SamePlace (step z a) (step y b)
  step-same z y a b report same =
      subst (λ e. IsSameSummary SamePlace (step z a) (step y (b.0, e))) report.effect (placed-same z y a.0 b.0 a.1 report.place same)

  -- further reports on each side
  steps-same : (xs ys : List PlacedEffect) (z y : Summary) → AllZip IsSameReport xs ys → IsSameSummary SamePlace z y
      → IsSameSummary SamePlace (fold step z xs) (fold step y ys)
  steps-same [] [] z y reports same = same
  steps-same [] (b ∷ bs) z y reports same = absurd reports
  steps-same (a ∷ as') [] z y reports same = absurd reports
  steps-same (a ∷ as') (b ∷ bs) z y reports same =
      steps-same as' bs (step z a) (step y b) reports.1 (step-same z y a b reports.0 same)

  -- so the summaries are the same
  pub summary_of-same : (xs ys : List PlacedEffect) → AllZip IsSameReport xs ys → IsSameSummary SamePlace (summary_of xs) (summary_of ys)
  summary_of-same xs ys reports =
      steps-same xs ys empty_summary empty_summary reports
      (record { opening = tt; high = tt; low = tt; last = tt; volume = refl; trades = refl })
