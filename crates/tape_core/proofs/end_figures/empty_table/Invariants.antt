use Rattle.std.proofs.Common.{◌≡◌, [], length}
use Rattle.std.specs.List.{All}
use Rattle.sale_matrix.specs.declared.matrix.Matrix.{Matrix}
use Rattle.tape_core.specs.Ending.{AreFigures, AreOfAtMost}
use Rattle.tape_core.proofs.end_figures.empty_table.Given as goal

-- all figures so far are of no report
abbrev pub invariant-loop : goal.invariant-loop
invariant-loop l = record {
  figures : (matrix : Matrix) → All (AreFigures matrix []) l.table.items;
  none : All (AreOfAtMost 0) l.table.items;
  count : length l.table.items ≡ l.counter;
}
