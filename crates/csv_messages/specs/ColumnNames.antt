-- The columns by their names, and what their fields have to be in words.
use Rattle.std.specs.Prelude.{ℕ, List, Option, Some, None, codes, if◌then◌else◌}
use Rattle.std.specs.Str.{bytes_eq}
use Rattle.csv_messages.specs.declared.column.Column.{Column}
use Rattle.csv_messages.specs.declared.column.Column.TheVariants.{Kind, Participant, Number, Moment, Symbol, Target, Price, Size, Condition}

-- the name of a column in a header row
abbrev pub column_name : Column → List ℕ
column_name Kind = codes "kind"
column_name Participant = codes "participant"
column_name Number = codes "number"
column_name Moment = codes "moment"
column_name Symbol = codes "symbol"
column_name Target = codes "target"
column_name Price = codes "price"
column_name Size = codes "size"
column_name Condition = codes "condition"

-- the column of a name
unfoldable pub column_named : List ℕ → Option Column
column_named name =
    if bytes_eq name (column_name Kind) then Some Kind
    else if bytes_eq name (column_name Participant) then Some Participant
    else if bytes_eq name (column_name Number) then Some Number
    else if bytes_eq name (column_name Moment) then Some Moment
    else if bytes_eq name (column_name Symbol) then Some Symbol
    else if bytes_eq name (column_name Target) then Some Target
    else if bytes_eq name (column_name Price) then Some Price
    else if bytes_eq name (column_name Size) then Some Size
    else if bytes_eq name (column_name Condition) then Some Condition
    else None

-- what a field of a column has to be
abbrev pub column_rule : Column → List ℕ
column_rule Kind = codes "report, cancel, correct or reinstate, or R, X, C or S"
column_rule Participant = codes "A to Z"
column_rule Number = codes "1 to 4294967295 in at most 20 digits"
column_rule Moment = codes "0 to 18446744073709551615 in at most 20 digits"
column_rule Symbol = codes "1 to 8 of A to Z, 0 to 9 and ."
column_rule Target = codes "1 to 4294967295 in at most 20 digits"
column_rule Price = codes "0.0001 to 99999999.9999 with at most 20 digits and four decimals"
column_rule Size = codes "1 to 99999999 in at most 20 digits"
column_rule Condition = codes "the four codes of a sale condition, with _ for a blank"
