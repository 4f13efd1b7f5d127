use Rattle.std.proofs.Common.{refl, ap, ◌∙◌, slice_index}
use Rattle.sale_matrix.specs.Matrix.{least_cells, cells_in, first_rows, second_rows, third_rows, fourth_rows, is_within}
use Rattle.sale_matrix.proofs.Least.{joined_cells, row_found, and_four}
use Rattle.sale_matrix.proofs.condition.joined.Goals as goal

pub returns-clause-cells : goal.returns-clause-cells
returns-clause-cells c =
    c.and-3.ensures ∙ ap (λ x. least_cells x c.in_ok-fourth.fourth) (c.and-2.ensures ∙ ap (λ x. least_cells x c.in_ok-third.third) c.and.ensures)
    ∙ joined_cells c.args.matrix c.args.codes _ _ _ _ c.in_ok-first.ensures c.in_ok-second.ensures c.in_ok-third.ensures c.in_ok-fourth.ensures

pub returns-clause-found : goal.returns-clause-found
unfolding is_within
returns-clause-found c =
    let codes = c.args.codes in (
      (λ _. and_four _ _ _ _
          (row_found (cells_in first_rows (slice_index codes 0)) _ c.in_ok-first.ensures)
          (row_found (cells_in second_rows (slice_index codes 1)) _ c.in_ok-second.ensures)
          (row_found (cells_in third_rows (slice_index codes 2)) _ c.in_ok-third.ensures)
          (row_found (cells_in (fourth_rows c.args.matrix) (slice_index codes 3)) _ c.in_ok-fourth.ensures)),
      (λ _. refl),
    )
