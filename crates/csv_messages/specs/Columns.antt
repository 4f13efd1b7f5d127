-- The columns of a table: by which names, and where, a header row has them.
use Rattle.std.specs.Prelude.{ℕ, ◌+◌, ◌==◌, ◌||◌, Bool, false, nat_lt, List, [], ◌∷◌, length, take, codes, Option, Some, None, Result, Ok, Err, ok_or, unwrap_or, if◌then◌else◌}
use Rattle.std.specs.List.{position_from}
use Rattle.std.specs.Option.{option_or}
use Rattle.std.specs.Str.{bytes_eq}
use Rattle.csv.specs.Records.{field_at}
use Rattle.reports.specs.Fields.{◌>>=◌}
use Rattle.csv_messages.specs.ColumnNames.{column_name, column_named}
use Rattle.csv_messages.specs.FaultTexts.{FAULT_TEXT_MOST}
use Rattle.csv_messages.specs.Rows.{RowText}
use Rattle.csv_messages.specs.TapeColumns.{is_tape_column}
use Rattle.csv_messages.specs.declared.column.Column.{Column}
use Rattle.csv_messages.specs.declared.column.Column.TheVariants as column
use Rattle.csv_messages.specs.declared.column_fault.ColumnFault.{ColumnFault}
use Rattle.csv_messages.specs.declared.column_fault.ColumnFault.TheVariants.{Unknown, Repeated, Missing}
use Rattle.csv_messages.specs.declared.columns.Columns.{Columns}

-- a remark's name, which begins with `#`
abbrev pub is_remark : List ℕ → Bool
is_remark [] = false
is_remark (first ∷ rest) = first == 35

-- whether a column is skipped: a remark's, or one that only a readable tape has
abbrev pub is_passed_over : List ℕ → Bool
is_passed_over name = is_remark name || is_tape_column name

-- the first place of a name in a header row
unfoldable pub place_of : List (List ℕ) → List ℕ → Option ℕ
place_of names name = position_from (λ other. bytes_eq other name) 0 names

-- a first place is before this one
abbrev pub is_before : ℕ → Option ℕ → Bool
is_before place None = false
is_before place (Some first) = nat_lt first place

-- what is wrong with a column's name at a place of a header row, if anything
abbrev pub named_fault : List (List ℕ) → ℕ → List ℕ → Option Column → Option ColumnFault
named_fault names place name None = Some (Unknown (take FAULT_TEXT_MOST name))
named_fault names place name (Some column) = if is_before place (place_of names name) then Some (Repeated column) else None

-- what is wrong with the name at a place of a header row, if anything
unfoldable pub name_fault : List (List ℕ) → ℕ → List ℕ → Option ColumnFault
name_fault names place name = if is_passed_over name then None else named_fault names place name (column_named name)

-- the first fault from a place of a header row on
unfoldable pub fault_from : List (List ℕ) → ℕ → List (List ℕ) → Option ColumnFault
fault_from names place [] = None
fault_from names place (name ∷ rest) = option_or (name_fault names place name) (fault_from names (place + 1) rest)

-- what is wrong with the names of a header row, if anything
abbrev pub header_fault : List (List ℕ) → Option ColumnFault
header_fault names = fault_from names 0 names

-- names with nothing wrong
abbrev pub faultless : Option ColumnFault → Result (Unit {0}) ColumnFault
faultless None = Ok tt
faultless (Some fault) = Err fault

-- the place of a column that every table has
abbrev pub required : List (List ℕ) → Column → Result ℕ ColumnFault
required names column = ok_or (place_of names (column_name column)) (Missing column)

-- the columns of a header row, or what is wrong with it
unfoldable pub header_columns : List (List ℕ) → Result Columns ColumnFault
header_columns names = do
  fine ← faultless (header_fault names)
  participant ← required names column.Participant
  number ← required names column.Number
  symbol ← required names column.Symbol
  price ← required names column.Price
  size ← required names column.Size
  condition ← required names column.Condition
  Ok (record {
    kind = place_of names (column_name column.Kind);
    participant = participant;
    number = number;
    moment = place_of names (column_name column.Moment);
    symbol = symbol;
    target = place_of names (column_name column.Target);
    price = price;
    size = size;
    condition = condition;
    width = length names;
  })

-- the field at a place, or an empty text behind the last
abbrev pub text_at : List (List ℕ) → ℕ → List ℕ
text_at fields place = unwrap_or (field_at fields place) []

-- the field of a column, or this text if the table has no such column
abbrev pub text_or : List (List ℕ) → List ℕ → Option ℕ → List ℕ
text_or fields absent None = absent
text_or fields absent (Some place) = text_at fields place

-- the texts of a record: if the table has no kinds each row is a report, and a field of any other missing column is empty
abbrev pub row_text_of : Columns → List (List ℕ) → RowText
row_text_of columns fields = record {
  kind = text_or fields (codes "report") columns.kind;
  participant = text_at fields columns.participant;
  number = text_at fields columns.number;
  moment = text_or fields [] columns.moment;
  symbol = text_at fields columns.symbol;
  target = text_or fields [] columns.target;
  price = text_at fields columns.price;
  size = text_at fields columns.size;
  condition = text_at fields columns.condition;
}
