-- Defines what a reader of a table has read: records, rows below a header row, and the messages of these.
use Rattle.std.specs.Prelude.{◌≡◌, ◌+◌, ◌++◌, ℕ, true, List, [], ◌∷◌, length, Option, Some, Result, Ok}
use Rattle.std.specs.Io.Buffered.{reader_remaining}
use Rattle.csv.specs.Reading.{Reached, Ready, default_config, is_flexible, reader_config, reader_state, reader_trim, source_of, strip_bom}
use Rattle.csv.specs.declared.parser.State.TheVariants as st
use Rattle.csv.specs.declared.reader.Reader.{Reader}
use Rattle.csv.specs.declared.reader.Trim.TheVariants as trim
use Rattle.reports.specs.declared.message.Message.{Message}
use Rattle.csv_messages.specs.Columns.{header_columns}
use Rattle.csv_messages.specs.Tables.{AreTableRecords, FIRST_ROW, IsTable, IsTableFault, fields_message, row_faults, row_messages}
use Rattle.csv_messages.specs.declared.columns.Columns.{Columns}
use Rattle.csv_messages.specs.declared.line_reader.LineReader.{LineReader}
use Rattle.csv_messages.specs.declared.row_fault.RowFault.{RowFault}
use Rattle.csv_messages.specs.declared.row_reader.RowReader.{RowReader}
use Rattle.csv_messages.specs.declared.table_fault.TableFault.{TableFault}

-- ## Records

-- the bytes that a reader of lines has left
abbrev pub lines_remaining : {R : Type 0} → (R → Option (List ℕ)) → LineReader R → Option (List ℕ)
lines_remaining known lines = reader_remaining known lines.inner

-- the reader gives each record as it stands, however many fields it has, by csv's defaults
pub record IsPlain {R : Type 0} (r : Reader R) : Type 0 where
  pub trim : reader_trim r ≡ trim.None
  pub ready : Ready r
  pub config : reader_config r ≡ default_config
  pub flexible : is_flexible r ≡ true

-- the reader has read these first records of a text, and has the rest left
pub record HasRead {R : Type 0} (remaining : R → Option (List ℕ)) (r : Reader R) (input : List ℕ) (records : List (List (List ℕ))) : Type 0 where
  pub rest : List ℕ
  pub source : source_of remaining r ≡ Some rest
  pub reached : Reached default_config st.StartRecord (strip_bom input) records (reader_state r) rest

-- the reader has read the header row of a text, which has these columns
abbrev pub HasColumns : {R : Type 0} → (R → Option (List ℕ)) → Reader R → List ℕ → Columns → Type 0
HasColumns remaining r input columns =
    (names : List (List ℕ)) × HasRead remaining r input (names ∷ []) × (header_columns names ≡ Ok columns)

-- ## Rows

-- a reader of rows can be read on
abbrev pub ReadsRows : {R : Type 0} → RowReader R → Type 0
ReadsRows rows = IsPlain rows.reader

-- it has read the header row and these rows of a text, and has the columns and the number of the next row
pub record HasRows {R : Type 0} (remaining : R → Option (List ℕ)) (rows : RowReader R) (input : List ℕ) (read : List (List (List ℕ))) : Type 0 where
  pub names : List (List ℕ)
  pub has : HasRead remaining rows.reader input (names ∷ read)
  pub columns : header_columns names ≡ Ok rows.columns
  pub number : rows.number ≡ length read + FIRST_ROW

-- it read one row more, and this is its message or its fault
pub record HasNext {R : Type 0} (remaining : R → Option (List ℕ)) (old new : RowReader R) (row : Result Message RowFault) : Type 0 where
  pub fields : List (List ℕ)
  pub is : row ≡ fields_message old.columns fields
  pub columns : new.columns ≡ old.columns
  pub more : (input : List ℕ) (read : List (List (List ℕ))) → HasRows remaining old input read → HasRows remaining new input (read ++ fields ∷ [])

-- it found no row more
abbrev pub HasAll : {R : Type 0} → (R → Option (List ℕ)) → RowReader R → Type 0
HasAll remaining old = (input : List ℕ) (read : List (List (List ℕ))) → HasRows remaining old input read
    → (names : List (List ℕ)) × AreTableRecords input (names ∷ read) × (header_columns names ≡ Ok old.columns)

-- ## Messages

-- the rows that were read of a text are these messages
pub record HasTaken {R : Type 0} (remaining : R → Option (List ℕ)) (rows : RowReader R) (input : List ℕ) (messages : List Message) : Type 0 where
  pub read : List (List (List ℕ))
  pub has : HasRows remaining rows input read
  pub faults : row_faults rows.columns FIRST_ROW read ≡ []
  pub are : row_messages rows.columns read ≡ messages

-- these messages more were read
abbrev pub TakesMore : {R : Type 0} → (R → Option (List ℕ)) → RowReader R → RowReader R → List Message → Type 0
TakesMore remaining old new messages =
    (input : List ℕ) (before : List Message) → HasTaken remaining old input before → HasTaken remaining new input (before ++ messages)

-- with these messages the table is whole
abbrev pub TakesRest : {R : Type 0} → (R → Option (List ℕ)) → RowReader R → List Message → Type 0
TakesRest remaining rows messages =
    (input : List ℕ) (before : List Message) → HasTaken remaining rows input before → IsTable input (before ++ messages)

-- the table has this fault
abbrev pub FailsWith : {R : Type 0} → (R → Option (List ℕ)) → RowReader R → TableFault → Type 0
FailsWith remaining rows fault = (input : List ℕ) (before : List Message) → HasTaken remaining rows input before → IsTableFault input fault
