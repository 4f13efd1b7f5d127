-- Defines the readable tape: a row for each message, with its symbol's figures after it.
use Rattle.std.specs.Prelude.{ℕ, List, [], ◌∷◌, ◌++◌, Option, Some, None, Result, Ok, Err, decimal}
use Rattle.std.specs.List.{flat_map}
use Rattle.csv.specs.Writing.{default_writer, row_text}
use Rattle.sale_matrix.specs.declared.matrix.Matrix.{Matrix}
use Rattle.reports.specs.declared.message.Message.{Message}
use Rattle.scratch_fold.specs.declared.summary.Mark.{Mark}
use Rattle.tape_core.specs.Refusals.{refusal_code, refusal_name}
use Rattle.tape_core.specs.Tape.{TapeState, row_figures}
use Rattle.tape_core.specs.declared.entry.Entry.{Entry}
use Rattle.tape_core.specs.declared.refusal.Refusal.{Refusal}
use Rattle.tape_core.specs.declared.row_figures.RowFigures.{RowFigures}
use Rattle.csv_messages.specs.TableTexts.{column_names}
use Rattle.csv_messages.specs.TapeColumns.{answer_names, figure_names}
use Rattle.csv_messages.specs.Writing.{price_text, row_fields, row_of}
use Rattle.tape_core.specs.Answers.{answer, tape_after}
use Rattle.csv_days.specs.Days.{first_tape}

-- ## Rows

-- a row: a row of the table, the tape's answer to it, and the figures of its symbol then
pub record TapeRow : Type 0 where
  pub answer : Result ℕ Refusal
  pub message : Message
  pub figures : RowFigures

-- the figures of a message's symbol on a tape
abbrev pub figures_after : TapeState → Message → RowFigures
figures_after t m = row_figures t.matrix t.entries m

-- the row of a message: the tape's answer, and the figures of its symbol after it
unfoldable pub tape_row : TapeState → Message → TapeRow
tape_row t m = record { answer = answer t m; message = m; figures = figures_after (tape_after t m) m }

-- the rows of messages
unfoldable pub tape_rows : TapeState → List Message → List TapeRow
tape_rows t [] = []
tape_rows t (m ∷ ms) = tape_row t m ∷ tape_rows (tape_after t m) ms

-- the row of an entry: its tape number, its message, and the figures of its symbol after it
abbrev pub entry_row : Entry → RowFigures → TapeRow
entry_row e figures = record { answer = Ok e.number; message = e.message; figures = figures }

-- the rows of entries after these, each with the figures of its symbol right after it
unfoldable pub entry_rows : Matrix → List Entry → List Entry → List TapeRow
entry_rows matrix before [] = []
entry_rows matrix before (e ∷ es) =
    entry_row e (row_figures matrix (before ++ e ∷ []) e.message) ∷ entry_rows matrix (before ++ e ∷ []) es

-- ## Fields

-- the names of the columns: those of the answer, of the message and of the figures
abbrev pub tape_columns : List (List ℕ)
tape_columns = answer_names ++ (column_names ++ figure_names)

-- a refusal by number and name
abbrev pub refusal_text : Refusal → List ℕ
refusal_text refused = decimal (refusal_code refused) ++ (32 ∷ refusal_name refused)

-- the tape number and the refusal, of which one is empty
abbrev pub answer_fields : Result ℕ Refusal → List (List ℕ)
answer_fields (Ok number) = decimal number ∷ [] ∷ []
answer_fields (Err refused) = [] ∷ refusal_text refused ∷ []

-- the price of a mark in dollars, or nothing
abbrev pub mark_field : Option Mark → List ℕ
mark_field None = []
mark_field (Some mark) = price_text mark.price

-- the fields of a row's figures
abbrev pub figures_fields : RowFigures → List (List ℕ)
figures_fields figures =
    let z = figures.consolidated in
    mark_field z.opening ∷ mark_field z.high ∷ mark_field z.low ∷ mark_field z.last ∷ decimal z.volume ∷ decimal z.trades ∷ []

-- the fields of a row
unfoldable pub tape_fields : TapeRow → List (List ℕ)
tape_fields row = answer_fields row.answer ++ (row_fields (row_of row.message) ++ figures_fields row.figures)

-- ## Text

-- the line of a row
abbrev pub row_line : TapeRow → List ℕ
row_line row = row_text default_writer (tape_fields row)

-- the line of the columns' names
abbrev pub head_line : List ℕ
head_line = row_text default_writer tape_columns

-- the lines of rows
unfoldable pub rows_text : List TapeRow → List ℕ
rows_text rows = flat_map row_line rows

-- the names of the columns, and the rows of messages that a tape answers
unfoldable pub text_from : TapeState → List Message → List ℕ
text_from t messages = head_line ++ rows_text (tape_rows t messages)

-- the names of the columns, and the rows of a tape's entries
abbrev pub entries_text : Matrix → List Entry → List ℕ
entries_text matrix entries = head_line ++ rows_text (entry_rows matrix [] entries)

-- the readable tape of messages
abbrev pub tape_text : Matrix → List Message → List ℕ
tape_text matrix messages = text_from (first_tape matrix messages) messages
