-- The sale condition matrices as they are printed: the rows of each matrix for each of the four positions. A row has its
-- codes and its cells in the columns consolidated high/low, consolidated last, participant high/low, participant last,
-- volume. The two differ in the fourth position alone. A space restricts nothing and is allowed after the first position.
use Rattle.std.specs.Prelude.{◌≡◌, ℕ, Bool, true, ◌==◌, nat_le, ◌&&◌, List, [], ◌∷◌, length, Option, Some, None, unwrap_or, is_some, min, fold, map}
use Rattle.std.specs.Prelude.{if◌then◌else◌, codes, slice_index}
use Rattle.std.specs.List.{list_any, list_all}
use Rattle.sale_matrix.specs.declared.matrix.LastRule.{LastRule}
use Rattle.sale_matrix.specs.declared.matrix.LastRule.TheVariants.{Always, SameMarket, FirstOnly, Never}
use Rattle.sale_matrix.specs.declared.matrix.Cells.{Cells}
use Rattle.sale_matrix.specs.declared.matrix.Matrix.{Matrix}
use Rattle.sale_matrix.specs.declared.matrix.Matrix.TheVariants.{One, Two}

-- a row: its codes, and its cells in the five columns
abbrev pub MatrixRow : Type 0
MatrixRow = List ℕ × List ℕ

-- the settlement
unfoldable pub first_rows : List MatrixRow
first_rows =
    (codes "@", codes "YYYYY") ∷
    (codes "CNR", codes "NNNNY") ∷ []

-- the exemption from trade-through rules
unfoldable pub second_rows : List MatrixRow
second_rows =
    (codes " ", codes "YYYYY") ∷
    (codes "FO56", codes "YYYYY") ∷
    (codes "4", codes "YFYFY") ∷
    (codes "7", codes "NNNNY") ∷
    (codes "9", codes "YYNNN") ∷ []

-- extended hours, or sold
unfoldable pub third_rows : List MatrixRow
third_rows =
    (codes " ", codes "YYYYY") ∷
    (codes "TU", codes "NNNNY") ∷
    (codes "L", codes "YSYSY") ∷
    (codes "Z", codes "YFYFY") ∷ []

-- the detail that a market requires
unfoldable pub fourth_rows : Matrix → List MatrixRow
fourth_rows One =
    (codes " ", codes "YYYYY") ∷
    (codes "ABDSXY1", codes "YYYYY") ∷
    (codes "HIVW", codes "NNNNY") ∷
    (codes "PG", codes "YFYFY") ∷
    (codes "M", codes "NNYYN") ∷
    (codes "Q", codes "NNYNN") ∷ []
fourth_rows Two =
    (codes " ", codes "YYYYY") ∷
    (codes "ABDSXY1", codes "YYYYY") ∷
    (codes "HVW", codes "NNNNY") ∷
    (codes "I", codes "YNYNY") ∷
    (codes "2", codes "YSYSY") ∷
    (codes "PG3", codes "YFYFY") ∷
    (codes "M", codes "NNYYN") ∷
    (codes "Q", codes "NNYNN") ∷ []

-- the cells of a code in its position's rows
abbrev pub cells_in : List MatrixRow → ℕ → Option (List ℕ)
cells_in [] code = None
cells_in (row ∷ rows) code = if list_any (λ c. code == c) row.0 then Some row.1 else cells_in rows code

-- the cells of each code of a condition, in its own position of a matrix
abbrev pub cells_of_codes : Matrix → List ℕ → List (Option (List ℕ))
cells_of_codes matrix condition =
    cells_in first_rows (slice_index condition 0) ∷
    cells_in second_rows (slice_index condition 1) ∷
    cells_in third_rows (slice_index condition 2) ∷
    cells_in (fourth_rows matrix) (slice_index condition 3) ∷ []

-- whether each code of a condition is in its position's rows of a matrix
unfoldable pub is_within : Matrix → List ℕ → Bool
is_within matrix condition = list_all is_some (cells_of_codes matrix condition)

-- four codes, each in its position's rows of Matrix Two, which has every code of Matrix One
pub record IsCondition (condition : List ℕ) : Type 0 where
  pub four : length condition ≡ 4
  pub coded : is_within Two condition ≡ true

-- N < F < S < Y
abbrev pub rank_of : ℕ → ℕ
rank_of cell =
    if cell == 78 then 0 else (if cell == 70 then 1 else (if cell == 83 then 2 else 3))

-- whether a high/low or a volume cell of this rank is a yes
abbrev pub is_yes : ℕ → Bool
is_yes rank = nat_le 3 rank

-- the rule of a last cell of this rank
abbrev pub rule_of : ℕ → LastRule
rule_of rank =
    if rank == 0 then Never else (if rank == 1 then FirstOnly else (if rank == 2 then SameMarket else Always))

-- the cells of five ranks, one for each column
abbrev pub cells_by : (ℕ → ℕ) → Cells
cells_by rank = record {
  ch = is_yes (rank 0);
  cl = rule_of (rank 1);
  ph = is_yes (rank 2);
  pl = rule_of (rank 3);
  volume = is_yes (rank 4);
}

-- the cells of one row
abbrev pub cells_of_row : List ℕ → Cells
cells_of_row row = cells_by (λ column. rank_of (slice_index row column))

-- the least cell of a column over the codes of a condition, by its rank
abbrev pub least_in : Matrix → List ℕ → ℕ → ℕ
least_in matrix condition column =
    fold min 3 (map (λ row. rank_of (slice_index (unwrap_or row []) column)) (cells_of_codes matrix condition))

-- the cells of a condition in a matrix: the least over its codes, column by column
unfoldable pub cells_of : Matrix → List ℕ → Cells
cells_of matrix condition = cells_by (least_in matrix condition)

-- the weaker of two rules: this and the next serve clauses of private functions, which join cells pair by pair
abbrev pub weaker : LastRule → LastRule → LastRule
weaker Never other = Never
weaker FirstOnly Never = Never
weaker FirstOnly other = FirstOnly
weaker SameMarket Never = Never
weaker SameMarket FirstOnly = FirstOnly
weaker SameMarket other = SameMarket
weaker Always other = other

-- the lesser cell in each column
abbrev pub least_cells : Cells → Cells → Cells
least_cells a b = record {
  ch = a.ch && b.ch;
  cl = weaker a.cl b.cl;
  ph = a.ph && b.ph;
  pl = weaker a.pl b.pl;
  volume = a.volume && b.volume;
}
