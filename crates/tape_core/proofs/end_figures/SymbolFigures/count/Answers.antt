use Rattle.std.proofs.Common.{◌≡◌, ℕ, ◌+◌, ◌∷◌, ◌++◌, [], ◌<◌, length, slice_index_or, slice_get, slice_set, Some, IfSome, sym, ap, subst, ◌∙◌, arith, refl}
use Rattle.tape_types.specs.Ranges.{IsParticipant, row_index}
use Rattle.scratch_fold.specs.declared.summary.Summary.{Summary}
use Rattle.tape_core.specs.Ending.{IsOfAtMost, own_summary_of}
use Rattle.tape_core.specs.Standing.{StandingReport}
use Rattle.tape_core.proofs.EndFigures.{IsOfAtMost-more, IsOfAtMost-step, all-push, at-index, is-at-index, own-push, own-set, own-summaries}
use Rattle.tape_core.proofs.end_figures.SymbolFigures.count.Goals as goal

pub returns-clause-figures : goal.returns-clause-figures
returns-clause-figures c = λ matrix reports of was.
    let who = c.args.who in
    let is : IsParticipant who = (omega arith, omega arith) in
    let own = c.args.self.now.own in
    let inside : row_index who < length own = omega arith in
    let at : c.row_index-row.result ≡ row_index who = c.row_index-row.ensures.index in
    let r : StandingReport = record { place = c.args.place; who = who; content = c.args.content.now } in
    let old : Summary = slice_index_or own c.row_index-row.result c.index-self-row.result in
    let mine : old ≡ own_summary_of matrix reports who =
    ap (λ k. slice_index_or own k c.index-self-row.result) at
    ∙ is-at-index own (row_index who) c.index-self-row.result (own_summary_of matrix reports who) inside (was.own who is) in
    record {
      all = c.add.ensures.step ∙ all-push matrix reports r c.args.cells of c.args.self.now.all was.all;
      own = subst (λ k. (w : ℕ) → IsParticipant w → slice_get (slice_set own k c.add-2.new.self) (row_index w) ≡ Some (own_summary_of matrix (reports ++ r ∷ []) w))
          (sym at) (own-summaries own who is c.add-2.new.self inside matrix reports r refl
          (c.add-2.ensures.step ∙ own-push matrix reports r c.args.cells of old mine) was.own);
    }

pub returns-clause-few : goal.returns-clause-few
returns-clause-few c = λ most was.
    let who = c.args.who in
    let is : IsParticipant who = (omega arith, omega arith) in
    let own = c.args.self.now.own in
    let inside : row_index who < length own = omega arith in
    let at : c.row_index-row.result ≡ row_index who = c.row_index-row.ensures.index in
    let old : Summary = slice_index_or own c.row_index-row.result c.index-self-row.result in
    let mine : IsOfAtMost most old =
    subst (IsOfAtMost most) (sym (ap (λ k. slice_index_or own k c.index-self-row.result) at)) (at-index (IsOfAtMost most) own (row_index who) c.index-self-row.result inside (was.own who is)) in
    record {
      all = IsOfAtMost-step most c.args.self.now.all c.add.new.self was.all (ap (λ (z : Summary). z.trades) c.add.ensures.step) c.add.ensures.volume;
      own = subst (λ k. (w : ℕ) → IsParticipant w → IfSome (slice_get (slice_set own k c.add-2.new.self) (row_index w)) (IsOfAtMost (most + 1)))
          (sym at) (own-set own who is c.add-2.new.self inside (IsOfAtMost most) (IsOfAtMost (most + 1))
          (IsOfAtMost-step most old c.add-2.new.self mine (ap (λ (z : Summary). z.trades) c.add-2.ensures.step) c.add-2.ensures.volume)
          (IsOfAtMost-more most) was.own);
    }
