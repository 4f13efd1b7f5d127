-- Defines the cells of a sale condition as another language gets them.
use Rattle.std.specs.Prelude.{ℕ, Bool, List, Option, None, Some, if◌then◌else◌}
use Rattle.reports.specs.Texts.{is_condition}
use Rattle.sale_matrix.specs.Matrix.{cells_of, is_within}
use Rattle.sale_matrix.specs.declared.matrix.Cells.{Cells}
use Rattle.sale_matrix.specs.declared.matrix.LastRule.{LastRule}
use Rattle.sale_matrix.specs.declared.matrix.LastRule.TheVariants.{Always, SameMarket, FirstOnly, Never}
use Rattle.sale_matrix.specs.declared.matrix.Matrix.{Matrix}
use Rattle.tapebox_c.specs.declared.rows.CellsRow.{CellsRow}

-- the sale condition that bytes are
abbrev pub as_condition : List ℕ → Option (List ℕ)
as_condition bytes = if is_condition bytes then Some bytes else None

-- `Y` or `N`
abbrev pub yes_letter : Bool → ℕ
yes_letter is_yes = if is_yes then 89 else 78

-- `Y`, `S`, `F` or `N`
abbrev pub rule_letter : LastRule → ℕ
rule_letter Always = 89
rule_letter SameMarket = 83
rule_letter FirstOnly = 70
rule_letter Never = 78

-- cells as a row
abbrev pub cells_row : Cells → CellsRow
cells_row c = record {
  high_low = yes_letter c.ch;
  last = rule_letter c.cl;
  own_high_low = yes_letter c.ph;
  own_last = rule_letter c.pl;
  volume = yes_letter c.volume;
}

-- the cells of a condition: 104 if there is no such matrix, 21 if the bytes are no condition, 44 if the matrix does not have
-- its codes
abbrev pub cells_told : Option Matrix → Option (List ℕ) → CellsRow → ℕ × CellsRow
cells_told None condition row = (104, row)
cells_told (Some matrix) None row = (21, row)
cells_told (Some matrix) (Some condition) row = if is_within matrix condition then (0, cells_row (cells_of matrix condition)) else (44, row)
