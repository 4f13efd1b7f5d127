-- Shows the figures of a symbol with one more report.
use Rattle.std.proofs.Common.{◌≡◌, ℕ, ◌+◌, ◌<◌, ◌≤◌, ◌==◌, Bool, true, false, cond, List, [], ◌∷◌, ◌++◌, length, map, filter, replicate, slice_get, slice_set, slice_index_or, Some, IfSome}
use Rattle.std.proofs.Common.{refl, ap, ◌∙◌, sym, subst, arith, eq-eqb}
use Rattle.std.proofs.lemmas.Bool.Decides.{nat_tests}
use Rattle.std.proofs.lemmas.List.{map-append, get_or-replicate}
use Rattle.std.proofs.lemmas.List.Sums.{fold_push}
use Rattle.std.proofs.lemmas.Option.{same_Some, slice_get-get_or}
use Rattle.tape_types.specs.Ranges.{IsParticipant, PARTICIPANTS_MOST, SIZE_MOST, row_index}
use Rattle.sale_matrix.specs.Matrix.{cells_of}
use Rattle.sale_matrix.specs.declared.matrix.Cells.{Cells}
use Rattle.sale_matrix.specs.declared.matrix.Matrix.{Matrix}
use Rattle.scratch_fold.specs.Columns.{consolidated_effect, participant_effect}
use Rattle.scratch_fold.specs.Fold.{PlacedEffect, empty_summary, step, summary_of}
use Rattle.scratch_fold.specs.declared.summary.Summary.{Summary}
use Rattle.tape_core.specs.declared.end_figures.SymbolFigures.{SymbolFigures}
use Rattle.tape_core.specs.Ending.{AreOfAtMost, IsOfAtMost, own_summary_of}
use Rattle.tape_core.specs.Standing.{StandingReport, placed_consolidated, placed_participant}
use Rattle.tape_core.proofs.Cells.{IfSome-then, get-set_other, get-set_same}

-- a row of one summary has it at each index
pub slice_get-row : (z : Summary) (k : ℕ) → k < PARTICIPANTS_MOST → slice_get (replicate PARTICIPANTS_MOST z) k ≡ Some z
slice_get-row z k inside =
    slice_get-get_or (replicate PARTICIPANTS_MOST z) k z (omega arith) ∙ ap Some (get_or-replicate PARTICIPANTS_MOST k z z inside)

-- the summary of no report is of at most none
pub IsOfAtMost-empty : (z : Summary) → z ≡ empty_summary → IsOfAtMost 0 z
IsOfAtMost-empty z is = subst (IsOfAtMost 0) (sym is) (record { volume = omega arith; trades = omega arith })

-- one more report
pub summary-push : (xs : List PlacedEffect) (x : PlacedEffect) → summary_of (xs ++ x ∷ []) ≡ step (summary_of xs) x
summary-push xs x = fold_push step empty_summary xs x

module _ (matrix : Matrix) (reports : List StandingReport) (r : StandingReport) (cells : Cells) (of : cells ≡ cells_of matrix r.content.condition) where
  -- the consolidated summary with it
  pub all-push : (z : Summary) → z ≡ summary_of (map (placed_consolidated matrix) reports)
      → step z (r.place, consolidated_effect r.who r.content.price r.content.size cells) ≡ summary_of (map (placed_consolidated matrix) (reports ++ r ∷ []))
  all-push z is =
      (λ i. step (is i) (r.place, consolidated_effect r.who r.content.price r.content.size (of i)))
      ∙ sym (summary-push (map (placed_consolidated matrix) reports) (placed_consolidated matrix r))
      ∙ ap summary_of (sym (map-append (placed_consolidated matrix) reports (r ∷ [])))

  -- its participant's own summary with it
  pub own-push : (z : Summary) → z ≡ own_summary_of matrix reports r.who
      → step z (r.place, participant_effect r.who r.content.price r.content.size cells) ≡ own_summary_of matrix (reports ++ r ∷ []) r.who
  own-push z is =
      (λ i. step (is i) (r.place, participant_effect r.who r.content.price r.content.size (of i)))
      ∙ sym (summary-push (map (placed_participant matrix) (filter (λ x. x.who == r.who) reports)) (placed_participant matrix r))
      ∙ ap summary_of (sym (map-append (placed_participant matrix) (filter (λ x. x.who == r.who) reports) (r ∷ [])))
      ∙ ap (λ l. summary_of (map (placed_participant matrix) l)) (sym (filter-mine reports))
    where
      same : (r.who == r.who) ≡ true
      same = grind (arith, nat_tests)

      filter-mine : (xs : List StandingReport) → filter (λ x. x.who == r.who) (xs ++ r ∷ []) ≡ filter (λ x. x.who == r.who) xs ++ r ∷ []
      filter-mine [] = ap (λ (b : Bool). cond b (r ∷ []) []) same
      filter-mine (x ∷ xs) = elim (x.who == r.who) as (λ b. cond b (x ∷ filter (λ y. y.who == r.who) (xs ++ r ∷ [])) (filter (λ y. y.who == r.who) (xs ++ r ∷ []))
          ≡ cond b (x ∷ filter (λ y. y.who == r.who) xs) (filter (λ y. y.who == r.who) xs) ++ r ∷ []) [
            | true ↦ ap (λ l. x ∷ l) (filter-mine xs)
            | false ↦ filter-mine xs
          ]

-- another participant's own summary stays
pub own-other : (matrix : Matrix) (reports : List StandingReport) (r : StandingReport) (who : ℕ) → (r.who == who) ≡ false
    → own_summary_of matrix reports who ≡ own_summary_of matrix (reports ++ r ∷ []) who
own-other matrix reports r who other = ap (λ l. summary_of (map (placed_participant matrix) l)) (sym (apart reports))
  where
    apart : (xs : List StandingReport) → filter (λ x. x.who == who) (xs ++ r ∷ []) ≡ filter (λ x. x.who == who) xs
    apart [] = ap (λ (b : Bool). cond b (r ∷ []) []) other
    apart (x ∷ xs) = elim (x.who == who) as (λ b. cond b (x ∷ filter (λ y. y.who == who) (xs ++ r ∷ [])) (filter (λ y. y.who == who) (xs ++ r ∷ []))
        ≡ cond b (x ∷ filter (λ y. y.who == who) xs) (filter (λ y. y.who == who) xs)) [
          | true ↦ ap (λ l. x ∷ l) (apart xs)
          | false ↦ apart xs
        ]

-- what holds of the summary at an index holds of the one found there
pub at-index : (P : Summary → Type 0) (zs : List Summary) (k : ℕ) (d : Summary) → k < length zs → IfSome (slice_get zs k) P → P (slice_index_or zs k d)
at-index P zs k d inside holds = subst (λ o. IfSome o P) (slice_get-get_or zs k d inside) holds

-- and there is one
pub is-at-index : (zs : List Summary) (k : ℕ) (d z : Summary) → k < length zs → slice_get zs k ≡ Some z → slice_index_or zs k d ≡ z
is-at-index zs k d z inside there = same_Some (slice_index_or zs k d) z (sym (slice_get-get_or zs k d inside) ∙ there)

-- at most one more report is counted
pub IsOfAtMost-step : (most : ℕ) (old new : Summary) → IsOfAtMost most old → new.trades ≡ old.trades + 1 → new.volume ≤ old.volume + SIZE_MOST
    → IsOfAtMost (most + 1) new
IsOfAtMost-step most old new was trades volume = record {
  volume = let before = was.volume in omega arith;
  trades = let before = was.trades in omega arith;
}

-- and it stays so if it was so before
pub IsOfAtMost-more : (most : ℕ) (z : Summary) → IsOfAtMost most z → IsOfAtMost (most + 1) z
IsOfAtMost-more most z was = record {
  volume = let before = was.volume in omega arith;
  trades = let before = was.trades in omega arith;
}

-- figures of few reports are also figures of at most more
pub AreOfAtMost-up : (few many : ℕ) (figures : SymbolFigures) → few ≤ many → AreOfAtMost few figures → AreOfAtMost many figures
AreOfAtMost-up few many figures less was = record {
  all = up figures.all was.all;
  own = λ who is. IfSome-then (IsOfAtMost few) (IsOfAtMost many) up (slice_get figures.own (row_index who)) (was.own who is);
}
  where
    up : (z : Summary) → IsOfAtMost few z → IsOfAtMost many z
    up z was = record { volume = let before = was.volume in omega arith; trades = let before = was.trades in omega arith }

-- ## A figure in the row of the participants

module _ (own : List Summary) (who : ℕ) (is : IsParticipant who) (new : Summary) (inside : row_index who < length own) where
  -- the participant's own summary is the new one
  pub set-mine : slice_get (slice_set own (row_index who) new) (row_index who) ≡ Some new
  set-mine = get-set_same own (row_index who) new inside

  -- another participant's stays
  pub set-other : (other : ℕ) → IsParticipant other → (who == other) ≡ false → slice_get (slice_set own (row_index who) new) (row_index other) ≡ slice_get own (row_index other)
  set-other other of apart =
      get-set_other own (row_index who) (row_index other) new
      (λ same. let one : who ≡ other = omega arith in absurd (cc (sym apart ∙ eq-eqb who other one)))

  -- a fact of the new one, and of all that were there
  pub own-set : (P Q : Summary → Type 0) → Q new → ((z : Summary) → P z → Q z)
      → ((w : ℕ) → IsParticipant w → IfSome (slice_get own (row_index w)) P)
      → (w : ℕ) → IsParticipant w → IfSome (slice_get (slice_set own (row_index who) new) (row_index w)) Q
  own-set P Q here up were w of = elim (who == w) as (λ b. (who == w) ≡ b → IfSome (slice_get (slice_set own (row_index who) new) (row_index w)) Q) [
    | true ↦ λ same. let one : who ≡ w = grind (arith, nat_tests) in
        subst (λ w. IfSome (slice_get (slice_set own (row_index who) new) (row_index w)) Q) one (subst (λ o. IfSome o Q) (sym set-mine) here)
    | false ↦ λ apart. subst (λ o. IfSome o Q) (sym (set-other w of apart)) (IfSome-then P Q up (slice_get own (row_index w)) (were w of))
  ] refl

  -- the participants' own summaries with one more report
  pub own-summaries : (matrix : Matrix) (reports : List StandingReport) (r : StandingReport) → r.who ≡ who
      → new ≡ own_summary_of matrix (reports ++ r ∷ []) who
      → ((w : ℕ) → IsParticipant w → slice_get own (row_index w) ≡ Some (own_summary_of matrix reports w))
      → (w : ℕ) → IsParticipant w → slice_get (slice_set own (row_index who) new) (row_index w) ≡ Some (own_summary_of matrix (reports ++ r ∷ []) w)
  own-summaries matrix reports r theirs here were w of =
      elim (who == w) as (λ b. (who == w) ≡ b → slice_get (slice_set own (row_index who) new) (row_index w) ≡ Some (own_summary_of matrix (reports ++ r ∷ []) w)) [
        | true ↦ λ same. let one : who ≡ w = grind (arith, nat_tests) in
            subst (λ w. slice_get (slice_set own (row_index who) new) (row_index w) ≡ Some (own_summary_of matrix (reports ++ r ∷ []) w)) one (set-mine ∙ ap Some here)
        | false ↦ λ apart. set-other w of apart ∙ were w of ∙ ap Some (own-other matrix reports r w (ap (λ x. x == w) theirs ∙ apart))
      ] refl
