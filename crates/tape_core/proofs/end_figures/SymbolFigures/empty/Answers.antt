use Rattle.std.proofs.Common.{IfSome, ◌∙◌, ap, sym, subst, Some, arith}
use Rattle.tape_types.specs.Ranges.{row_index}
use Rattle.tape_core.specs.Ending.{IsOfAtMost}
use Rattle.tape_core.proofs.EndFigures.{IsOfAtMost-empty, slice_get-row}
use Rattle.tape_core.proofs.end_figures.SymbolFigures.empty.Goals as goal

pub returns-clause-figures : goal.returns-clause-figures
returns-clause-figures c = λ matrix. record {
  all = c.empty.ensures.empty;
  own = λ who is. slice_get-row c.empty-2.result (row_index who) (omega arith) ∙ ap Some c.empty-2.ensures.empty;
}

pub returns-clause-none : goal.returns-clause-none
returns-clause-none c = record {
  all = IsOfAtMost-empty c.empty.result c.empty.ensures.empty;
  own = λ who is. subst (λ o. IfSome o (IsOfAtMost 0)) (sym (slice_get-row c.empty-2.result (row_index who) (omega arith)))
      (IsOfAtMost-empty c.empty-2.result c.empty-2.ensures.empty);
}
