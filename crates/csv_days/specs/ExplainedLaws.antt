-- What is true of every text that tells of a table's reports.
use Rattle.std.specs.Prelude.{◌≡◌, ◌⊎◌, ◌==◌, ◌&&◌, ◌∷◌, ℕ, Bool, true, false, List, [], All, Some, count_by, filter, if◌then◌else◌, is_some, map, sum_by}
use Rattle.tape_types.specs.Names.{symbol_eq}
use Rattle.sale_matrix.specs.declared.matrix.Matrix.{Matrix}
use Rattle.reports.specs.Messages.{header_of, reported_content}
use Rattle.reports.specs.declared.message.Header.{Header}
use Rattle.reports.specs.declared.message.Message.{Message}
use Rattle.scratch_fold.specs.declared.summary.Mark.{Mark}
use Rattle.scratch_fold.specs.declared.summary.Summary.{Summary}
use Rattle.corrections.specs.declared.target.Standing.{Standing as State}
use Rattle.corrections.specs.declared.target.Standing.TheVariants.{Standing, Cancelled}
use Rattle.tape_core.specs.Standing.{NumberedMessage, participant_summary, symbol_summary}
use Rattle.tape_core.specs.Tape.{messages_of}
use Rattle.csv_days.specs.Days.{tape_of}
use Rattle.csv_days.specs.Explained.{explained_reports, sets_text}
use Rattle.csv_days.specs.declared.explained.Explained.{Explained}

-- the messages of a table's tape with their numbers
abbrev pub tape_messages : Matrix → List Message → List NumberedMessage
tape_messages matrix messages = messages_of (tape_of matrix messages).entries

-- ## Reports

-- the place of a row's report, and what it begins with
abbrev pub row_name : Explained → ℕ × Header
row_name row = (row.report.place, row.header)

-- the place of a message, and what it begins with
abbrev pub message_name : NumberedMessage → ℕ × Header
message_name n = (n.0, header_of n.1)

-- whether a row tells of a report of this symbol
abbrev pub is_row_of : List ℕ → Explained → Bool
is_row_of symbol row = symbol_eq row.header.symbol symbol

-- whether a message is a report of this symbol
abbrev pub is_report_of : List ℕ → NumberedMessage → Bool
is_report_of symbol n = is_some (reported_content n.1) && symbol_eq (header_of n.1).symbol symbol

-- the rows of a symbol are its reports that the tape admitted, each once, by rising place
abbrev pub RowsOfReports : Type 0
RowsOfReports = (matrix : Matrix) (messages : List Message) (symbol : List ℕ)
    → map row_name (filter (is_row_of symbol) (explained_reports matrix messages))
    ≡ map message_name (filter (is_report_of symbol) (tape_messages matrix messages))

-- ## Figures

-- a mark is a figure of a summary
abbrev pub IsFigure : Mark → Summary → Type 0
IsFigure mark z = (z.opening ≡ Some mark) ⊎ ((z.high ≡ Some mark) ⊎ ((z.low ≡ Some mark) ⊎ (z.last ≡ Some mark)))

-- a row tells of the report of a mark: of the symbol, which stands there, with this price and participant
pub record TellsOf (symbol : List ℕ) (mark : Mark) (row : Explained) : Type 0 where
  pub of_symbol : row.header.symbol ≡ symbol
  pub place : row.report.place ≡ mark.place
  pub who : row.header.participant ≡ mark.who
  pub price : row.report.content.price ≡ mark.price
  pub stands : row.report.standing ≡ Standing

-- exactly one of some rows is at the place of a mark, and it tells of the mark's report
abbrev pub HasOneRow : List Explained → List ℕ → Mark → Type 0
HasOneRow rows symbol mark = (row : Explained) × (filter (λ r. r.report.place == mark.place) rows ≡ row ∷ []) × TellsOf symbol mark row

-- each figure of a symbol has exactly one row, which tells of its report
abbrev pub RowsOfFigures : Type 0
RowsOfFigures = (matrix : Matrix) (messages : List Message) (symbol : List ℕ) (mark : Mark)
    → IsFigure mark (symbol_summary matrix (tape_messages matrix messages) symbol) → HasOneRow (explained_reports matrix messages) symbol mark

-- and so has each figure of a participant in a symbol
abbrev pub RowsOfOwnFigures : Type 0
RowsOfOwnFigures = (matrix : Matrix) (messages : List Message) (symbol : List ℕ) (who : ℕ) (mark : Mark)
    → IsFigure mark (participant_summary matrix (tape_messages matrix messages) symbol who) → HasOneRow (explained_reports matrix messages) symbol mark

-- ## Sums

-- whether a report stands
abbrev pub is_standing : State → Bool
is_standing Standing = true
is_standing Cancelled = false

-- the shares of a row that a symbol's volume counts: those of a report that stands, if its condition counts there
abbrev pub counted_shares : Explained → ℕ
counted_shares row = if is_standing row.report.standing && row.cells.volume then row.report.content.size else 0

-- a summary's volume and trades are those of rows that stand
pub record AddUp (rows : List Explained) (z : Summary) : Type 0 where
  pub volume : z.volume ≡ sum_by counted_shares rows
  pub trades : z.trades ≡ count_by (λ row. is_standing row.report.standing) rows

-- the rows of each symbol add up to its volume and its trades
abbrev pub RowsAddUp : Type 0
RowsAddUp = (matrix : Matrix) (messages : List Message) (symbol : List ℕ)
    → AddUp (filter (is_row_of symbol) (explained_reports matrix messages)) (symbol_summary matrix (tape_messages matrix messages) symbol)

-- ## Cancelled reports

-- a cancelled report sets nothing
abbrev pub CancelledSetNothing : Type 0
CancelledSetNothing = (matrix : Matrix) (messages : List Message)
    → All (λ row. row.report.standing ≡ Cancelled → (sets_text row.report.place row.figures ≡ []) × (sets_text row.report.place row.own ≡ []))
    (explained_reports matrix messages)
