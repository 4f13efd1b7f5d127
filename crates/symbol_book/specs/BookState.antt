-- The state of a book, as a contract sees it.
use Rattle.std.specs.Prelude.{refl}
use Rattle.std.specs.Coded.{Coded, code_by, coded_ℕ, coded×}
use Rattle.std.specs.FinMap as map
use Rattle.sale_matrix.specs.declared.matrix.Matrix.{Matrix}
use Rattle.symbol_book.specs.declared.trade.Trade.{Trade}
use Rattle.symbol_book.specs.Columns.{Trades}

-- the matrix that it uses, and the standing trades
pub record BookState : Type 0 where
  pub matrix : Matrix
  pub trades : Trades

-- an empty book of this matrix
abbrev pub empty_book : Matrix → BookState
empty_book matrix = record { matrix = matrix; trades = map.empty }

-- a book is stored as the pair of its fields
abbrev pub book_code : Coded Matrix → Coded Trade → Coded BookState
book_code matrix trade =
    code_by (Matrix × Trades) (coded× matrix (map.code coded_ℕ trade)) (λ b. (b.matrix, b.trades))
    (λ p. record { matrix = p.0; trades = p.1 }) (λ _. refl)
