-- Shows that the readable tape of messages reads back as those messages.
use Rattle.std.proofs.Common.{◌≡◌, ◌+◌, ◌++◌, ◌∙◌, ◌∷◌, [], ℕ, List, Result, Ok, Err, Some, refl, ap, map, codes, decimal}
use Rattle.std.specs.List.{AllByRecursion}
use Rattle.std.proofs.lemmas.List.Elements.{recursion_from_All}
use Rattle.csv.specs.Machine.{next_record}
use Rattle.csv.specs.Reading.{Reached, default_config, strip_bom}
use Rattle.csv.specs.Records.{field_at}
use Rattle.csv.specs.Writing.{default_writer, escaped, fields_text, is_blank, row_text}
use Rattle.csv.specs.declared.parser.State.TheVariants as st
use Rattle.csv.proofs.RoundTrip.{read-write-many}
use Rattle.reports.specs.Spelling.{IsMessage}
use Rattle.reports.specs.declared.message.Message.{Message}
use Rattle.tape_core.specs.Tape.{TapeState}
use Rattle.tape_core.specs.declared.refusal.Refusal.{Refusal}
use Rattle.csv_messages.specs.ColumnNames.{column_named}
use Rattle.csv_messages.specs.Columns.{fault_from, header_columns, name_fault, place_of}
use Rattle.csv_messages.specs.Laws.{RowRoundTrip}
use Rattle.csv_messages.specs.Tables.{fault_of, fields_message, known_messages, message_of, row_faults, row_messages, table_faults}
use Rattle.csv_messages.specs.TapeColumns.{is_tape_column}
use Rattle.csv_messages.specs.Writing.{row_fields, row_of}
use Rattle.csv_messages.specs.declared.columns.Columns.{Columns}
use Rattle.tape_core.specs.Answers.{tape_after}
use Rattle.csv_days.specs.Days.{first_tape}
use Rattle.csv_days.specs.TapeRows.{TapeRow, answer_fields, tape_columns, figures_fields, refusal_text, row_line, rows_text, tape_fields, tape_row, tape_rows, text_from}
use Rattle.recorded_tapes.specs.Laws.{TapeRoundTrip}

-- ## The records of the text

-- the record of one row
record-of-row : (row : TapeRow) (tail : List ℕ)
    → next_record default_config st.StartRecord [] [] (row_line row ++ tail) ≡ Some (tape_fields row, st.StartRecord, tail)
unfolding tape_fields
record-of-row row tail = by_answer row.answer (row_fields (row_of row.message) ++ figures_fields row.figures)
  where
    by_answer : (answer : Result ℕ Refusal) (rest : List (List ℕ))
        → next_record default_config st.StartRecord [] [] (row_text default_writer (answer_fields answer ++ rest) ++ tail)
        ≡ Some (answer_fields answer ++ rest, st.StartRecord, tail)
    by_answer (Ok number) rest = read-write-many (decimal number) [] rest tail
    by_answer (Err refused) rest = read-write-many [] (refusal_text refused) rest tail

-- the records of rows
rows-reached : (rows : List TapeRow) → Reached default_config st.StartRecord (rows_text rows) (map tape_fields rows) st.StartRecord []
unfolding Reached rows_text
rows-reached [] = (refl, refl)
rows-reached (row ∷ rows) = ((tape_fields row, st.StartRecord, rows_text rows), record-of-row row (rows_text rows), refl, rows-reached rows)

-- the records of the whole text
text-reached : (t : TapeState) (messages : List Message)
    → Reached default_config st.StartRecord (text_from t messages) (tape_columns ∷ map tape_fields (tape_rows t messages)) st.StartRecord []
unfolding Reached text_from
text-reached t messages = (
  (tape_columns, st.StartRecord, rows_text (tape_rows t messages)),
  read-write-many (codes "tape") (codes "refused")
      (codes "kind" ∷ codes "participant" ∷ codes "number" ∷ codes "moment" ∷ codes "symbol" ∷ codes "target" ∷ codes "price" ∷ codes "size"
      ∷ codes "condition" ∷ codes "open" ∷ codes "high" ∷ codes "low" ∷ codes "last" ∷ codes "volume" ∷ codes "trades" ∷ [])
      (rows_text (tape_rows t messages)),
  refl,
  rows-reached (tape_rows t messages),
)

-- the text begins with no byte order mark
no_mark : (t : TapeState) (messages : List Message) → strip_bom (text_from t messages) ≡ text_from t messages
unfolding strip_bom text_from fields_text escaped is_blank
no_mark t messages = refl

-- ## The messages of the records

-- the columns in their order
in_order : Columns
in_order = record {
  kind = Some 2;
  participant = 3;
  number = 4;
  moment = Some 5;
  symbol = 6;
  target = Some 7;
  price = 8;
  size = 9;
  condition = 10;
  width = 17;
}

-- the names are those of the columns
names-columns : header_columns tape_columns ≡ Ok in_order
unfolding header_columns fault_from name_fault column_named place_of in_order is_tape_column
names-columns = refl

module _ (row_back : RowRoundTrip) where
  -- a row's fields read back as its message
  fields-back : (row : TapeRow) → IsMessage row.message → fields_message in_order (tape_fields row) ≡ Ok row.message
  unfolding fields_message in_order field_at tape_fields
  fields-back row is = by_answer row.answer
    where
      by_answer : (answer : Result ℕ Refusal)
          → fields_message in_order (answer_fields answer ++ (row_fields (row_of row.message) ++ figures_fields row.figures)) ≡ Ok row.message
      by_answer (Ok number) = row_back row.message is
      by_answer (Err refused) = row_back row.message is

  -- the rows of messages have no fault
  no-faults : (n : ℕ) (t : TapeState) (messages : List Message) → AllByRecursion IsMessage messages
      → row_faults in_order n (map tape_fields (tape_rows t messages)) ≡ []
  unfolding row_faults tape_rows tape_row
  no-faults n t [] all = refl
  no-faults n t (m ∷ messages) all =
      ap (λ read. fault_of n read ++ row_faults in_order (n + 1) (map tape_fields (tape_rows (tape_after t m) messages))) (fields-back (tape_row t m) all.0)
      ∙ no-faults (n + 1) (tape_after t m) messages all.1

  -- they read back
  rows-back : (t : TapeState) (messages : List Message) → AllByRecursion IsMessage messages
      → row_messages in_order (map tape_fields (tape_rows t messages)) ≡ messages
  unfolding row_messages tape_rows tape_row
  rows-back t [] all = refl
  rows-back t (m ∷ messages) all =
      ap (λ read. message_of read ++ row_messages in_order (map tape_fields (tape_rows (tape_after t m) messages))) (fields-back (tape_row t m) all.0)
      ∙ ap (λ (l : List Message). m ∷ l) (rows-back (tape_after t m) messages all.1)

  -- the text of every readable tape of messages reads back as those messages
  pub tape_round_trip : TapeRoundTrip
  unfolding table_faults known_messages next_record tape_rows
  tape_round_trip matrix m ms all =
      let t : TapeState = first_tape matrix (m ∷ ms) in
      let each = recursion_from_All IsMessage (m ∷ ms) all in (
        tape_columns ∷ map tape_fields (tape_rows t (m ∷ ms)),
        (st.StartRecord, [], rw (no_mark t (m ∷ ms)) (text-reached t (m ∷ ms)), refl),
        rw names-columns (no-faults 2 t (m ∷ ms) each),
        rw names-columns (rows-back t (m ∷ ms) each),
      )
