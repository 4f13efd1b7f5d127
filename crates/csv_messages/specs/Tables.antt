-- Defines a whole table: a header row and records, the messages that these spell, and the faults of those that spell none.
use Rattle.std.specs.Prelude.{◌≡◌, ◌⊎◌, ◌+◌, ◌-◌, ◌==◌, ◌||◌, ℕ, Bool, List, [], ◌∷◌, ◌++◌, length, Option, Some, None, Result, Ok, Err, if◌then◌else◌}
use Rattle.csv.specs.Reading.{AreRecords, Reached, default_config, strip_bom}
use Rattle.csv.specs.declared.parser.State.{State}
use Rattle.csv.specs.declared.parser.State.TheVariants as st
use Rattle.reports.specs.declared.message.Message.{Message}
use Rattle.csv_messages.specs.Columns.{header_columns, row_text_of, text_at}
use Rattle.csv_messages.specs.FaultTexts.{has_line_end}
use Rattle.csv_messages.specs.Rows.{row_message}
use Rattle.csv_messages.specs.declared.column_fault.ColumnFault.{ColumnFault}
use Rattle.csv_messages.specs.declared.columns.Columns.{Columns}
use Rattle.csv_messages.specs.declared.row_fault.RowFault.{RowFault}
use Rattle.csv_messages.specs.declared.table_fault.TableFault.{TableFault}
use Rattle.csv_messages.specs.declared.row_fault.RowFault.TheVariants.{Fields}
use Rattle.csv_messages.specs.declared.table_fault.TableFault.TheVariants.{Header, NoRow, Row, ReadFault, OutOfMemory}

-- ## Rows

-- the number of the first row below the header row, which is itself the first row of all
abbrev pub FIRST_ROW : ℕ
FIRST_ROW = 2

-- whether the last field of a record has a line end
abbrev pub goes_over : List (List ℕ) → Bool
goes_over fields = has_line_end (text_at fields (length fields - 1))

-- the message of a record's fields
unfoldable pub fields_message : Columns → List (List ℕ) → Result Message RowFault
fields_message columns fields =
    if length fields == columns.width then row_message (row_text_of columns fields)
    else Err (Fields (length fields) columns.width (goes_over fields))

-- the fault of the row of this number, if it is no message
abbrev pub fault_of : ℕ → Result Message RowFault → List TableFault
fault_of number (Ok message) = []
fault_of number (Err fault) = Row number fault ∷ []

-- the faults of rows under a header row, of which the first has this number: one for each that is no message
unfoldable pub row_faults : Columns → ℕ → List (List (List ℕ)) → List TableFault
row_faults columns number [] = []
row_faults columns number (fields ∷ rows) = fault_of number (fields_message columns fields) ++ row_faults columns (number + 1) rows

-- the message of a row, if it is one
abbrev pub message_of : Result Message RowFault → List Message
message_of (Ok message) = message ∷ []
message_of (Err fault) = []

-- the messages of the rows that are messages
unfoldable pub row_messages : Columns → List (List (List ℕ)) → List Message
row_messages columns [] = []
row_messages columns (fields ∷ rows) = message_of (fields_message columns fields) ++ row_messages columns rows

-- ## Tables

-- the faults of rows under a header row that has these columns, or none: then its fault is the only one
abbrev pub faults_under : Result Columns ColumnFault → List (List (List ℕ)) → List TableFault
faults_under (Err fault) rows = Header fault ∷ []
faults_under (Ok columns) [] = NoRow ∷ []
faults_under (Ok columns) (fields ∷ rows) = row_faults columns FIRST_ROW (fields ∷ rows)

-- every fault of a table's records, in order
unfoldable pub table_faults : List (List (List ℕ)) → List TableFault
table_faults [] = NoRow ∷ []
table_faults (names ∷ rows) = faults_under (header_columns names) rows

-- the messages of rows under a header row that has these columns, or none
abbrev pub messages_under : Result Columns ColumnFault → List (List (List ℕ)) → List Message
messages_under (Err fault) rows = []
messages_under (Ok columns) rows = row_messages columns rows

-- the messages of the rows of a table's records that are some
unfoldable pub known_messages : List (List (List ℕ)) → List Message
known_messages [] = []
known_messages (names ∷ rows) = messages_under (header_columns names) rows

-- all records of a text, which may begin with a byte order mark
abbrev pub AreTableRecords : List ℕ → List (List (List ℕ)) → Type 0
AreTableRecords input records = AreRecords default_config st.StartRecord (strip_bom input) records

-- the first records of a text
abbrev pub AreFirstRecords : List ℕ → List (List (List ℕ)) → Type 0
AreFirstRecords input records = (s : State) × (rest : List ℕ) × Reached default_config st.StartRecord (strip_bom input) records s rest

-- a text is a table of these messages: its records have no fault
abbrev pub IsTable : List ℕ → List Message → Type 0
IsTable input messages =
    (records : List (List (List ℕ))) × AreTableRecords input records × (table_faults records ≡ []) × (known_messages records ≡ messages)

-- ## Faults

-- the first of some faults, if any
abbrev pub first_of : List TableFault → Option TableFault
first_of [] = None
first_of (fault ∷ faults) = Some fault

-- the first records of a text have this fault first, whatever follows them
abbrev pub IsRecordFault : List ℕ → TableFault → Type 0
IsRecordFault input fault = (records : List (List (List ℕ))) × AreFirstRecords input records × (first_of (table_faults records) ≡ Some fault)

-- all records of a text have this fault first
abbrev pub IsWholeFault : List ℕ → TableFault → Type 0
IsWholeFault input fault = (records : List (List (List ℕ))) × AreTableRecords input records × (first_of (table_faults records) ≡ Some fault)

-- why a text is not read as a table: a fault of its header row or of a row, or there is no row; or a read failed, or memory ran
-- out
abbrev pub IsTableFault : List ℕ → TableFault → Type 0
IsTableFault input (Header fault) = IsRecordFault input (Header fault)
IsTableFault input NoRow = IsWholeFault input NoRow
IsTableFault input (Row number fault) = IsRecordFault input (Row number fault)
IsTableFault input ReadFault = Unit {0}
IsTableFault input OutOfMemory = Unit {0}

-- records with a header row at fault
abbrev pub HasBadHeader : List (List (List ℕ)) → Type 0
HasBadHeader [] = ⊥
HasBadHeader (names ∷ rows) = (fault : ColumnFault) × (header_columns names ≡ Err fault)

-- the records of a text that are checked: all, or only the first if the header row is at fault
abbrev pub AreChecked : List ℕ → List (List (List ℕ)) → Type 0
AreChecked input records = AreTableRecords input records ⊎ (AreFirstRecords input records × HasBadHeader records)

-- this is the only fault of the records, and no row is a message
pub record IsOnlyFault (fault : TableFault) (records : List (List (List ℕ))) : Type 0 where
  pub faults : table_faults records ≡ fault ∷ []
  pub messages : known_messages records ≡ []

-- why the rows of a text are not read: a fault of its header row, or there is none; or a read failed, or memory ran out
abbrev pub IsOpenFault : List ℕ → TableFault → Type 0
IsOpenFault input (Header fault) =
    (records : List (List (List ℕ))) × AreFirstRecords input records × HasBadHeader records × IsOnlyFault (Header fault) records
IsOpenFault input NoRow = (records : List (List (List ℕ))) × AreTableRecords input records × IsOnlyFault NoRow records
IsOpenFault input (Row number fault) = ⊥
IsOpenFault input ReadFault = Unit {0}
IsOpenFault input OutOfMemory = Unit {0}
