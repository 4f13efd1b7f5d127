-- The text of a table, and what it reads back as.
use Rattle.std.proofs.Common.{◌≡◌, ◌++◌, ◌∙◌, ◌+◌, ◌<◌, ◌∷◌, [], ℕ, zero, suc, List, Ok, Some, refl, sym, ap, append_assoc, append-nil, length, map, codes, arith, take, get_or}
use Rattle.std.specs.List.{AllByRecursion}
use Rattle.std.proofs.lemmas.List.Elements.{recursion_from_All}
use Rattle.csv.specs.Machine.{next_record}
use Rattle.csv.specs.Reading.{Reached, default_config, strip_bom}
use Rattle.csv.specs.Records.{field_at}
use Rattle.csv.specs.Writing.{default_writer, escaped, fields_text, is_blank, row_text}
use Rattle.csv.specs.declared.parser.State.TheVariants as st
use Rattle.csv.proofs.RoundTrip.{read-write-many}
use Rattle.reports.specs.Spelling.{IsMessage}
use Rattle.reports.specs.declared.message.Message.{Message}
use Rattle.csv_messages.specs.ColumnNames.{column_named}
use Rattle.csv_messages.specs.Columns.{fault_from, header_columns, name_fault, place_of}
use Rattle.csv_messages.specs.Laws.{TableRoundTrip}
use Rattle.csv_messages.specs.Tables.{fields_message, known_messages, row_faults, row_messages, table_faults}
use Rattle.csv_messages.specs.TableTexts.{column_names, message_fields, message_lines, table_text}
use Rattle.csv_messages.specs.TapeColumns.{is_tape_column}
use Rattle.csv_messages.specs.Writing.{row_of}
use Rattle.csv_messages.specs.declared.columns.Columns.{Columns}
use Rattle.csv_messages.proofs.RoundTrip.{row_round_trip}

-- ## The text so far

-- a table without messages has the names of its columns
pub table_text-nil : row_text default_writer column_names ≡ table_text []
unfolding table_text message_lines
table_text-nil = sym (append-nil (row_text default_writer column_names))

-- one message more is taken
message_lines-more : (messages : List Message) (i : ℕ) (m : Message) → i < length messages
    → message_lines (take (suc i) messages) ≡ message_lines (take i messages) ++ row_text default_writer (message_fields (get_or messages i m))
unfolding message_lines
message_lines-more [] i m within = absurd (omega arith)
message_lines-more (x ∷ xs) zero m within = append-nil (row_text default_writer (message_fields x))
message_lines-more (x ∷ xs) (suc i) m within =
    ap (λ (lines : List ℕ). row_text default_writer (message_fields x) ++ lines) (message_lines-more xs i m (omega arith))
    ∙ sym (append_assoc (row_text default_writer (message_fields x)) (message_lines (take i xs)) (row_text default_writer (message_fields (get_or xs i m))))

-- a message more is a line more
pub table_text-more : (messages : List Message) (i : ℕ) (m : Message) (old new : List ℕ) → i < length messages → get_or messages i m ≡ m
    → old ≡ table_text (take i messages) → new ≡ old ++ row_text default_writer (message_fields m) → new ≡ table_text (take (i + 1) messages)
unfolding table_text
table_text-more messages i m old new within is so_far written =
    let names : List ℕ = row_text default_writer column_names in
    let one : i + 1 ≡ suc i = omega arith in
    let line = λ (x : Message). row_text default_writer (message_fields x) in
    let more = message_lines-more messages i m within ∙ ap (λ (x : Message). message_lines (take i messages) ++ line x) is in
    written ∙ ap (λ (t : List ℕ). t ++ line m) so_far ∙ append_assoc names (message_lines (take i messages)) (line m)
    ∙ ap (λ (t : List ℕ). names ++ t) (sym more) ∙ ap (λ (k : ℕ). table_text (take k messages)) (sym one)

-- ## What the text reads back as

-- the records of the lines
lines-reached : (messages : List Message)
    → Reached default_config st.StartRecord (message_lines messages) (map message_fields messages) st.StartRecord []
unfolding Reached message_lines
lines-reached [] = (refl, refl)
lines-reached (m ∷ messages) =
    let row = row_of m in (
      (message_fields m, st.StartRecord, message_lines messages),
      read-write-many row.kind row.participant (row.number ∷ row.moment ∷ row.symbol ∷ row.target ∷ row.price ∷ row.size ∷ row.condition ∷ []) (message_lines messages),
      refl,
      lines-reached messages,
    )

-- the records of the whole text
text-reached : (messages : List Message)
    → Reached default_config st.StartRecord (table_text messages) (column_names ∷ map message_fields messages) st.StartRecord []
unfolding Reached table_text
text-reached messages = (
  (column_names, st.StartRecord, message_lines messages),
  read-write-many (codes "kind") (codes "participant")
      (codes "number" ∷ codes "moment" ∷ codes "symbol" ∷ codes "target" ∷ codes "price" ∷ codes "size" ∷ codes "condition" ∷ []) (message_lines messages),
  refl,
  lines-reached messages,
)

-- the text begins with no byte order mark
no_mark : (messages : List Message) → strip_bom (table_text messages) ≡ table_text messages
unfolding strip_bom table_text fields_text escaped is_blank
no_mark messages = refl

-- the columns in their order
in_order : Columns
in_order = record {
  kind = Some 0;
  participant = 1;
  number = 2;
  moment = Some 3;
  symbol = 4;
  target = Some 5;
  price = 6;
  size = 7;
  condition = 8;
  width = 9;
}

-- the names are those of the columns
names-columns : header_columns column_names ≡ Ok in_order
unfolding header_columns fault_from name_fault column_named place_of in_order is_tape_column
names-columns = refl

-- a message's fields read back
fields-back : (m : Message) → IsMessage m → fields_message in_order (message_fields m) ≡ Ok m
unfolding fields_message in_order field_at
fields-back m is = row_round_trip m is

-- the rows of messages have no fault
no-faults : (n : ℕ) (messages : List Message) → AllByRecursion IsMessage messages → row_faults in_order n (map message_fields messages) ≡ []
unfolding row_faults
no-faults n [] all = refl
no-faults n (m ∷ messages) all = rw (fields-back m all.0) (no-faults (n + 1) messages all.1)

-- they read back
rows-back : (messages : List Message) → AllByRecursion IsMessage messages → row_messages in_order (map message_fields messages) ≡ messages
unfolding row_messages
rows-back [] all = refl
rows-back (m ∷ messages) all = rw (fields-back m all.0) (ap (λ (l : List Message). m ∷ l) (rows-back messages all.1))

-- the text of every table of messages reads back as those messages
pub table_round_trip : TableRoundTrip
unfolding table_faults known_messages next_record
table_round_trip m ms all =
    let each = recursion_from_All IsMessage (m ∷ ms) all in (
      column_names ∷ map message_fields (m ∷ ms),
      (st.StartRecord, [], rw (no_mark (m ∷ ms)) (text-reached (m ∷ ms)), refl),
      rw names-columns (no-faults 2 (m ∷ ms) each),
      rw names-columns (rows-back (m ∷ ms) each),
    )
