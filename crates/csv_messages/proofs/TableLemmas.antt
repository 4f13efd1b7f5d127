-- What a reader of a table's records has read, and its header row.
use Rattle.std.proofs.Common.{◌≡◌, ◌≢◌, ◌∷◌, ◌++◌, ◌∙◌, [], ℕ, List, Option, Some, None, Ok, Err, IfSome, true, false, true≢false, arith, length, refl, sym}
use Rattle.std.specs.Option.{option_map}
use Rattle.csv.specs.Reading.{ExplainsRead, Reached, ReadRecord, default_config, is_flexible, reader_config, reader_state, source_of, stops_reader, strip_bom}
use Rattle.csv.specs.declared.error.ErrorKind.{ErrorKind}
use Rattle.csv.specs.declared.error.ErrorKind.TheVariants as kind
use Rattle.csv.specs.declared.parser.State.TheVariants as st
use Rattle.csv.specs.declared.reader.Reader.{Reader}
use Rattle.csv.proofs.ReadFacts.{rows-end, rows-more}
use Rattle.csv_messages.specs.Columns.{header_columns}
use Rattle.csv_messages.specs.TableReading.{HasColumns, HasRead}
use Rattle.csv_messages.specs.Tables.{AreTableRecords, FIRST_ROW, IsOpenFault, IsTableFault, first_of, known_messages, row_faults, row_messages, table_faults}
use Rattle.csv_messages.specs.declared.column_fault.ColumnFault.{ColumnFault}
use Rattle.csv_messages.specs.declared.columns.Columns.{Columns}
use Rattle.csv_messages.specs.declared.table_fault.TableFault.{TableFault}
use Rattle.csv_messages.specs.declared.table_fault.TableFault.TheVariants.{Header, NoRow, Row, ReadFault, OutOfMemory}

-- a reader at the start of a text
pub has_read-none : {R : Type 0} (remaining : R → Option (List ℕ)) (r : Reader R) (known : Option (List ℕ)) → source_of remaining r ≡ option_map strip_bom known
    → reader_state r ≡ st.StartRecord → IfSome known (λ input. HasRead remaining r input [])
unfolding Reached
has_read-none remaining r None source start = tt
has_read-none remaining r (Some input) source start = record { rest = strip_bom input; source = source; reached = (sym start, refl) }

-- a reader that read one record more
pub has_read-more : {R : Type 0} (remaining : R → Option (List ℕ)) (old new : Reader R) (fields : List (List ℕ)) → reader_config old ≡ default_config
    → ReadRecord remaining old new true fields → (input : List ℕ) (records : List (List (List ℕ))) → HasRead remaining old input records
    → HasRead remaining new input (records ++ fields ∷ [])
has_read-more remaining old new fields config read input records had =
    let (rest, source, reached) = rows-more remaining old new fields default_config st.StartRecord (strip_bom input) had.rest records config had.source had.reached read in
    record { rest = rest; source = source; reached = reached }

-- a reader that found no record more
pub has_read-all : {R : Type 0} (remaining : R → Option (List ℕ)) (old new : Reader R) (fields : List (List ℕ)) → reader_config old ≡ default_config
    → ReadRecord remaining old new false fields → (input : List ℕ) (records : List (List (List ℕ))) → HasRead remaining old input records
    → AreTableRecords input records
has_read-all remaining old new fields config read input records had =
    (reader_state old, had.rest, had.reached, rows-end remaining old new fields default_config had.rest config had.source read)

-- a read of bytes that failed at a reader of any lengths has stopped it
pub stops-flexible : {R : Type 0} (remaining : R → Option (List ℕ)) (old new : Reader R) (why : ErrorKind) → is_flexible old ≡ true
    → ExplainsRead remaining old new false why → stops_reader why ≡ true
stops-flexible remaining old new (kind.Io e) flexible explained = refl
stops-flexible remaining old new kind.OutOfMemory flexible explained = refl
stops-flexible remaining old new (kind.UnequalLengths pos expected len) flexible explained = absurd (true≢false (sym flexible ∙ explained.0))
stops-flexible remaining old new (kind.Utf8 pos err) flexible explained = absurd (true≢false (sym explained.0))
stops-flexible remaining old new (kind.Serialize text) flexible explained = absurd explained
stops-flexible remaining old new (kind.Deserialize pos err) flexible explained = absurd explained

-- ## The header row

-- the columns of a header row that was read
pub has_columns : {R : Type 0} (remaining : R → Option (List ℕ)) (old new : Reader R) (names : List (List ℕ)) (columns : Columns)
    → header_columns names ≡ Ok columns
    → ((input : List ℕ) (records : List (List (List ℕ))) → HasRead remaining old input records → HasRead remaining new input (records ++ names ∷ []))
    → (input : List ℕ) → HasRead remaining old input [] → HasColumns remaining new input columns
has_columns remaining old new names columns is more input had = (names, more input [] had, is)

-- a fault of a header row that was read
pub is_open_fault : {R : Type 0} (remaining : R → Option (List ℕ)) (old new : Reader R) (names : List (List ℕ)) (fault : ColumnFault)
    → header_columns names ≡ Err fault
    → ((input : List ℕ) (records : List (List (List ℕ))) → HasRead remaining old input records → HasRead remaining new input (records ++ names ∷ []))
    → (input : List ℕ) → HasRead remaining old input [] → IsOpenFault input (Header fault)
unfolding table_faults known_messages
is_open_fault remaining old new names fault is more input had =
    let now = more input [] had in (
      names ∷ [],
      (reader_state new, now.rest, now.reached),
      (fault, is),
      record { faults = rw is refl; messages = rw is refl },
    )

-- a text with no record has no row
pub is_open_fault-none : {R : Type 0} (remaining : R → Option (List ℕ)) (old : Reader R)
    → ((input : List ℕ) (records : List (List (List ℕ))) → HasRead remaining old input records → AreTableRecords input records)
    → (input : List ℕ) → HasRead remaining old input [] → IsOpenFault input NoRow
unfolding table_faults known_messages
is_open_fault-none remaining old all input had = ([], all input [] had, record { faults = refl; messages = refl })

-- why rows are not read is the table's fault
pub table-fault : (input : List ℕ) (fault : TableFault) → IsOpenFault input fault → IsTableFault input fault
table-fault input (Header f) (records, first, bad, only) = (records, first, rw only.faults refl)
table-fault input NoRow (records, all, only) = (records, all, rw only.faults refl)
table-fault input (Row n f) is = absurd is
table-fault input ReadFault is = tt
table-fault input OutOfMemory is = tt

-- ## The rows below it

-- the faults of a header row with some rows
pub faults-some : (names : List (List ℕ)) (columns : Columns) (rows : List (List (List ℕ))) → header_columns names ≡ Ok columns → length rows ≢ 0
    → table_faults (names ∷ rows) ≡ row_faults columns FIRST_ROW rows
unfolding table_faults
faults-some names columns [] named some = absurd (some refl)
faults-some names columns (r ∷ rows) named some = rw named refl

-- with none
pub faults-none : (names : List (List ℕ)) (columns : Columns) (rows : List (List (List ℕ))) → header_columns names ≡ Ok columns → length rows ≡ 0
    → first_of (table_faults (names ∷ rows)) ≡ Some NoRow
unfolding table_faults
faults-none names columns [] named none = rw named refl
faults-none names columns (r ∷ rows) named none = absurd (omega (arith, none))

-- the messages of its rows
pub messages-under : (names : List (List ℕ)) (columns : Columns) (rows : List (List (List ℕ))) → header_columns names ≡ Ok columns
    → known_messages (names ∷ rows) ≡ row_messages columns rows
unfolding known_messages
messages-under names columns rows named = rw named refl
