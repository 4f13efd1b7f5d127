-- The text of a table, as it is written.
use Rattle.std.specs.Prelude.{ℕ, List, [], ◌∷◌, ◌++◌}
use Rattle.std.specs.List.{flat_map}
use Rattle.csv.specs.Writing.{default_writer, row_text}
use Rattle.reports.specs.declared.message.Message.{Message}
use Rattle.csv_messages.specs.ColumnNames.{column_name}
use Rattle.csv_messages.specs.Writing.{row_fields, row_of}
use Rattle.csv_messages.specs.declared.column.Column.TheVariants.{Kind, Participant, Number, Moment, Symbol, Target, Price, Size, Condition}

-- the names of the nine columns in their order
abbrev pub column_names : List (List ℕ)
column_names =
    column_name Kind ∷ column_name Participant ∷ column_name Number ∷ column_name Moment ∷ column_name Symbol
    ∷ column_name Target ∷ column_name Price ∷ column_name Size ∷ column_name Condition ∷ []

-- the fields of a message's row
abbrev pub message_fields : Message → List (List ℕ)
message_fields m = row_fields (row_of m)

-- the lines of messages' rows, as csv writes them
unfoldable pub message_lines : List Message → List ℕ
message_lines messages = flat_map (λ m. row_text default_writer (message_fields m)) messages

-- the text of a table of messages: the names of the columns, and a row for each message
unfoldable pub table_text : List Message → List ℕ
table_text messages = row_text default_writer column_names ++ message_lines messages
