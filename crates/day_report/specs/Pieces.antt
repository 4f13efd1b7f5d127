-- The pieces of a listing, and the rows that workers made of them.
use Rattle.std.specs.Prelude.{◌≡◌, ◌≤◌, ◌<◌, ◌+◌, ℕ, List, length, slice_index_or, take, drop}
use Rattle.std.specs.List.{AllByRecursion, flat_map}
use Rattle.tape_core.specs.Tape.{TapeState}
use Rattle.day_report.specs.Rows.{symbol_rows}
use Rattle.day_report.specs.declared.pieces.Piece.{Piece}
use Rattle.day_report.specs.declared.row.Row.{Row}

-- the greatest number of workers of a report
abbrev pub MOST_WORKERS : ℕ
MOST_WORKERS = 64

-- a piece is the elements of a list from a position on
pub record IsPieceAt {X : Type 0} (whole : List X) (start : ℕ) (piece : List X) : Type 0 where
  pub within : start + length piece ≤ length whole
  pub elements : (k : ℕ) (d : X) → k < length piece → slice_index_or piece k d ≡ slice_index_or whole (start + k) d

-- the rows of at most so many symbols, from an index of the listing on
abbrev pub rows_of_piece : TapeState → ℕ → ℕ → List Row
rows_of_piece t size start = flat_map (symbol_rows t) (take size (drop start t.listing.symbols))

-- each of these pieces has the rows of the symbols from its first on
abbrev pub AreMade : TapeState → ℕ → List Piece → Type 0
AreMade t size pieces = AllByRecursion (λ p. p.rows.items ≡ rows_of_piece t size p.start) pieces

-- for any tape the pieces were made from, these rows are those of the piece that begins at the index
abbrev pub AreFrom : List Piece → ℕ → List Row → Type 0
AreFrom pieces start rows = (t : TapeState) (size : ℕ) → AreMade t size pieces → rows ≡ rows_of_piece t size start
