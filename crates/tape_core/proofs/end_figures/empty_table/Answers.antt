use Rattle.std.proofs.Common.{◌+◌, ◌∷◌, [], length, ap, sym, subst, ◌∙◌, length-append}
use Rattle.std.specs.List.{All}
use Rattle.tape_core.specs.Ending.{AreFigures, AreOfAtMost}
use Rattle.tape_core.proofs.Cells.{All-push}
use Rattle.tape_core.proofs.end_figures.empty_table.Goals as goal

pub loop-preserved : goal.loop-preserved
loop-preserved c = record {
  figures = λ matrix. subst (All (AreFigures matrix [])) (sym c.in_ok-push.ensures.items)
      (All-push (AreFigures matrix []) c.loop.table.items c.empty-in-loop.result (c.loop.invariant.figures matrix) (c.empty-in-loop.ensures.figures matrix));
  none = subst (All (AreOfAtMost 0)) (sym c.in_ok-push.ensures.items)
      (All-push (AreOfAtMost 0) c.loop.table.items c.empty-in-loop.result c.loop.invariant.none c.empty-in-loop.ensures.none);
  count = ap length c.in_ok-push.ensures.items ∙ length-append c.loop.table.items (c.empty-in-loop.result ∷ []) ∙ ap (λ n. n + 1) c.loop.invariant.count;
}
