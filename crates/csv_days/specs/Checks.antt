-- Defines the check of a table: the lines of its faults, those that are counted, and its names.
use Rattle.std.specs.Prelude.{◌≡◌, ◌⊎◌, ◌<◌, ◌+◌, ◌==◌, ◌&&◌, ◌++◌, ◌∷◌, ℕ, Bool, false, List, [], Option, None, Result, Ok}
use Rattle.std.specs.Prelude.{codes, decimal, drop, is_some, length, map, not, take, if◌then◌else◌}
use Rattle.std.specs.Io.KnownBytes.{Appends}
use Rattle.std.specs.List.{count_by, flat_map, slice_index_or}
use Rattle.std.specs.Option.{option_map_or}
use Rattle.whole_io.specs.Writing.{WritesPrefix}
use Rattle.tape_types.specs.Names.{is_nil, names_fault}
use Rattle.tape_types.specs.declared.listing_fault.ListingFault.{ListingFault}
use Rattle.reports.specs.declared.message.Message.{Message}
use Rattle.csv_messages.specs.Columns.{header_columns}
use Rattle.csv_messages.specs.TableReading.{HasRows}
use Rattle.csv_messages.specs.Tables.{AreChecked, FIRST_ROW, fields_message, known_messages, row_faults, row_messages, table_faults}
use Rattle.csv_messages.specs.declared.columns.Columns.{Columns}
use Rattle.csv_messages.specs.declared.row_reader.RowReader.{RowReader}
use Rattle.csv_messages.specs.ColumnNames.{column_name, column_rule}
use Rattle.csv_messages.specs.FaultLines.{table_fault_text}
use Rattle.csv_messages.specs.declared.column.Column.{Column}
use Rattle.csv_messages.specs.declared.column.Column.TheVariants.{Kind, Participant, Number, Moment, Symbol, Target, Price, Size, Condition}
use Rattle.csv_messages.specs.declared.row_fault.RowFault.{RowFault}
use Rattle.csv_messages.specs.declared.row_fault.RowFault.TheVariants.{Fields, Bad, Unused}
use Rattle.csv_messages.specs.declared.table_fault.TableFault.{TableFault}
use Rattle.csv_messages.specs.declared.table_fault.TableFault.TheVariants.{Header, NoRow, Row, ReadFault, OutOfMemory}
use Rattle.csv_days.specs.Days.{participants_of, symbols_of}
use Rattle.csv_days.specs.EndDays.{AreNames}
use Rattle.csv_days.specs.EndTexts.{listing_fault_text}
use Rattle.csv_days.specs.declared.fault_counts.FaultCounts.{FaultCounts}
use Rattle.csv_days.specs.declared.fault_kind.FaultKind.{FaultKind}
use Rattle.csv_days.specs.declared.fault_kind.FaultKind.TheVariants.{OtherFields, BadField, UnusedField}
use Rattle.csv_days.specs.declared.table_check.TableCheck.{TableCheck}
use Rattle.csv_days.specs.declared.told_fault.ToldFault.{ToldFault}
use Rattle.csv_days.specs.declared.table_end.TableEnd.{TableEnd}
use Rattle.csv_days.specs.declared.table_end.TableEnd.TheVariants.{Table, OutOfMemory as EndOutOfMemory, WriteFault}

-- ## Kinds

-- the place of a column among all, from 0
abbrev pub column_place : Column → ℕ
column_place Kind = 0
column_place Participant = 1
column_place Number = 2
column_place Moment = 3
column_place Symbol = 4
column_place Target = 5
column_place Price = 6
column_place Size = 7
column_place Condition = 8

-- the place of a kind among all, from 0
abbrev pub kind_place : FaultKind → ℕ
kind_place OtherFields = 18
kind_place (BadField column) = column_place column
kind_place (UnusedField column) = column_place column + 9

-- the kind of a row's fault
abbrev pub kind_of : RowFault → FaultKind
kind_of (Fields found wanted over) = OtherFields
kind_of (Bad column text) = BadField column
kind_of (Unused column text) = UnusedField column

-- whether a fault is a row's of this kind
abbrev pub is_of_kind : FaultKind → TableFault → Bool
is_of_kind kind (Row number fault) = kind_place (kind_of fault) == kind_place kind
is_of_kind kind (Header fault) = false
is_of_kind kind NoRow = false
is_of_kind kind ReadFault = false
is_of_kind kind OutOfMemory = false

-- how many faults of a kind were counted
abbrev pub counted_of : FaultCounts → FaultKind → ℕ
counted_of counts kind = slice_index_or counts.counts (kind_place kind) 0

-- these are the counts of these faults, for every kind
abbrev pub AreCounts : List TableFault → FaultCounts → Type 0
AreCounts faults counts = (kind : FaultKind) → counted_of counts kind ≡ count_by (is_of_kind kind) faults

-- ## Names

-- what is wrong with the names in messages, if anything: they are too many. None are wrong if there is no message
abbrev pub names_wrong : List Message → Option ListingFault
names_wrong [] = None
names_wrong (m ∷ ms) = names_fault (symbols_of (m ∷ ms)) (participants_of (m ∷ ms))

-- ## Lines

-- the line of a file, if it is not the number of the row
abbrev pub line_text : ℕ → TableFault → List ℕ
line_text line (Row number fault) = if line == number then [] else codes " (line " ++ (decimal line ++ codes ")")
line_text line (Header fault) = []
line_text line NoRow = []
line_text line ReadFault = []
line_text line OutOfMemory = []

-- the line of a fault: its text as a report has it, and the line of the file if that is not the row's number
abbrev pub told_text : ToldFault → List ℕ
told_text told = table_fault_text told.fault ++ (line_text told.line told.fault ++ codes "\n")

-- ## Checks

-- how many faults are told one by one
abbrev pub FAULTS_TOLD : ℕ
FAULTS_TOLD = 100

-- the fault that is told
abbrev pub fault_of : ToldFault → TableFault
fault_of told = told.fault

-- of these faults the first are told, so many by these lines, and the others counted
pub record AreTold (faults : List TableFault) (count : ℕ) (lines : List ℕ) (more : FaultCounts) : Type 0 where
  pub told : List ToldFault
  pub first : map fault_of told ≡ take FAULTS_TOLD faults
  pub counted : count ≡ length told
  pub by_lines : lines ≡ flat_map told_text told
  pub others : AreCounts (drop FAULTS_TOLD faults) more

-- a fault was told, with the line of the file in which its row begins, unless enough are told
abbrev pub Tells : TableCheck → TableCheck → ToldFault → Type 0
Tells old new told = old.told < FAULTS_TOLD → new.lines.items ≡ old.lines.items ++ told_text told

-- how many rows stand below the header row
abbrev pub row_count : List (List (List ℕ)) → ℕ
row_count [] = 0
row_count (names ∷ rows) = length rows

-- a check is that of these records
pub record IsCheckOf (records : List (List (List ℕ))) (check : TableCheck) : Type 0 where
  pub faults : AreTold (table_faults records) check.told check.lines.items check.more
  pub names : AreNames (known_messages records) check.names
  pub rows : table_faults records ≡ [] → check.rows ≡ row_count records

-- a check is that of a text
abbrev pub IsCheckOfText : List ℕ → TableCheck → Type 0
IsCheckOfText input check = (records : List (List (List ℕ))) × AreChecked input records × IsCheckOf records check

-- ## Rows one after another

-- a check has noted these rows under a header row
pub record HasNoted (columns : Columns) (rows : List (List (List ℕ))) (check : TableCheck) : Type 0 where
  pub faults : AreTold (row_faults columns FIRST_ROW rows) check.told check.lines.items check.more
  pub names : AreNames (row_messages columns rows) check.names

-- it has noted none
abbrev pub NotesNone : TableCheck → Type 0
NotesNone check = (columns : Columns) → HasNoted columns [] check

-- it noted the next row, which has this number
abbrev pub NotesRow : TableCheck → TableCheck → ℕ → Result Message RowFault → Type 0
NotesRow old new number row = (columns : Columns) (rows : List (List (List ℕ))) (fields : List (List ℕ))
    → number ≡ length rows + FIRST_ROW → row ≡ fields_message columns fields → HasNoted columns rows old → HasNoted columns (rows ++ fields ∷ []) new

-- it noted that the rows so far are all
abbrev pub NotesEnd : TableCheck → TableCheck → ℕ → Type 0
NotesEnd old new count = (columns : Columns) (names : List (List ℕ)) (rows : List (List (List ℕ)))
    → header_columns names ≡ Ok columns → count ≡ length rows → HasNoted columns rows old → IsCheckOf (names ∷ rows) new

-- it noted all rows that a reader has left
abbrev pub NotesAll : {R : Type 0} → (R → Option (List ℕ)) → RowReader R → TableCheck → Type 0
NotesAll known rows check = (input : List ℕ) → HasRows known rows input [] → IsCheckOfText input check

-- whether a table's records have no fault, and no more names than a listing
abbrev pub is_faultless : List (List (List ℕ)) → Bool
is_faultless records = is_nil (table_faults records) && not (is_some (names_wrong (known_messages records)))

-- ## Text

-- a kind in words
abbrev pub kind_text : FaultKind → List ℕ
kind_text OtherFields = codes "another number of fields than the header row has"
kind_text (BadField column) = column_name column ++ (codes " is not " ++ column_rule column)
kind_text (UnusedField column) = column_name column ++ codes " has to be empty in a row of this kind"

-- every kind: fields that are no values by their column, then those that have to be empty, and other numbers of fields
abbrev pub all_kinds : List FaultKind
all_kinds =
    BadField Kind ∷ BadField Participant ∷ BadField Number ∷ BadField Moment ∷ BadField Symbol ∷ BadField Target ∷ BadField Price
    ∷ BadField Size ∷ BadField Condition ∷ UnusedField Kind ∷ UnusedField Participant ∷ UnusedField Number ∷ UnusedField Moment
    ∷ UnusedField Symbol ∷ UnusedField Target ∷ UnusedField Price ∷ UnusedField Size ∷ UnusedField Condition ∷ OtherFields ∷ []

-- the line of the faults of a kind that were counted, if any
abbrev pub more_text : FaultCounts → FaultKind → List ℕ
more_text counts kind =
    if counted_of counts kind == 0 then [] else decimal (counted_of counts kind) ++ (codes " more: " ++ (kind_text kind ++ codes "\n"))

-- the line of names that make no listing
abbrev pub names_text : ListingFault → List ℕ
names_text fault = listing_fault_text fault ++ codes "\n"

-- one row, or several, without a fault
abbrev pub fine_words : ℕ → List ℕ
fine_words rows = if rows == 1 then codes " row, no fault\n" else codes " rows, no fault\n"

-- the line of a table without a fault
abbrev pub fine_text : ℕ → List ℕ
fine_text rows = decimal rows ++ fine_words rows

-- the lines of faults: those that are told, then those that were counted, and then that of the names
abbrev pub faults_text : List ℕ → FaultCounts → Option ListingFault → List ℕ
faults_text lines more names = lines ++ (flat_map (more_text more) all_kinds ++ option_map_or names_text names [])

-- what is told of a check
abbrev pub check_text : TableCheck → Option ListingFault → List ℕ
check_text check names =
    if (check.told == 0) && not (is_some names) then fine_text check.rows else faults_text check.lines.items check.more names

-- this is what is told of a table's records
abbrev pub IsCheckText : List (List (List ℕ)) → List ℕ → Type 0
IsCheckText records text = (check : TableCheck) × IsCheckOf records check × (text ≡ check_text check (names_wrong (known_messages records)))

-- what is told of a text was written, and whether it has no fault
pub record WritesCheck (input : List ℕ) (faultless : Bool) (old new : Option (List ℕ)) : Type 0 where
  pub records : List (List (List ℕ))
  pub checked : AreChecked input records
  pub is : faultless ≡ is_faultless records
  pub text : List ℕ
  pub told : IsCheckText records text
  pub written : Appends old new text

-- a part of it was written, from its front
pub record WritesCheckPart (input : List ℕ) (old new : Option (List ℕ)) : Type 0 where
  pub records : List (List (List ℕ))
  pub checked : AreChecked input records
  pub text : List ℕ
  pub told : IsCheckText records text
  pub written : WritesPrefix text old new

-- why nothing is told of a text: a read failed, memory ran out, or a write failed
abbrev pub IsCheckEnd : TableEnd → Type 0
IsCheckEnd end = (end ≡ Table ReadFault) ⊎ ((end ≡ Table OutOfMemory) ⊎ ((end ≡ EndOutOfMemory) ⊎ (end ≡ WriteFault)))
