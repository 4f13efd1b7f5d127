-- A row of a table: nine fields, and the message that they spell.
use Rattle.std.specs.Prelude.{ℕ, ◌==◌, List, length, take, Option, Result, Ok, Err, ok_or, if◌then◌else◌}
use Rattle.tape_types.specs.Ranges.{NUMBER_MOST, SIZE_MOST}
use Rattle.sale_matrix.specs.declared.content.Content.{Content}
use Rattle.reports.specs.Fields.{◌>>=◌}
use Rattle.reports.specs.declared.message.Header.{Header}
use Rattle.reports.specs.declared.message.Message.{Message}
use Rattle.reports.specs.declared.message.Message.TheVariants as message
use Rattle.csv_messages.specs.FaultTexts.{FAULT_TEXT_MOST}
use Rattle.csv_messages.specs.Kinds.{kind_of}
use Rattle.csv_messages.specs.Numbers.{number_within, price_of}
use Rattle.tape_types.specs.Names.{symbol_named}
use Rattle.csv_messages.specs.Texts.{condition_of, moment_of, participant_of}
use Rattle.csv_messages.specs.declared.column.Column.{Column}
use Rattle.csv_messages.specs.declared.column.Column.TheVariants as column
use Rattle.csv_messages.specs.declared.kind.Kind.{Kind}
use Rattle.csv_messages.specs.declared.kind.Kind.TheVariants as kind
use Rattle.csv_messages.specs.declared.row_fault.RowFault.{RowFault}
use Rattle.csv_messages.specs.declared.row_fault.RowFault.TheVariants.{Bad, Unused}

-- the text of each field
pub record RowText : Type 0 where
  pub kind : List ℕ
  pub participant : List ℕ
  pub number : List ℕ
  pub moment : List ℕ
  pub symbol : List ℕ
  pub target : List ℕ
  pub price : List ℕ
  pub size : List ℕ
  pub condition : List ℕ

-- the value of a column's field, or the fault of a text that writes none
abbrev pub field : {A : Type 0} → Column → List ℕ → Option A → Result A RowFault
field of text value = ok_or value (Bad of (take FAULT_TEXT_MOST text))

-- a column's field that has to be empty
unfoldable pub unused : Column → List ℕ → Result (Unit {0}) RowFault
unused of text = if length text == 0 then Ok tt else Err (Unused of (take FAULT_TEXT_MOST text))

-- the fields that every row begins with
unfoldable pub row_header : RowText → Result Header RowFault
row_header row = do
  participant ← field column.Participant row.participant (participant_of row.participant)
  number ← field column.Number row.number (number_within 1 NUMBER_MOST row.number)
  moment ← field column.Moment row.moment (moment_of row.moment)
  symbol ← field column.Symbol row.symbol (symbol_named row.symbol)
  Ok (record { participant = participant; number = number; moment = moment; symbol = symbol })

-- the number of the report that the message names
unfoldable pub row_target : RowText → Result ℕ RowFault
row_target row = field column.Target row.target (number_within 1 NUMBER_MOST row.target)

-- the price, the size and the condition
unfoldable pub row_content : RowText → Result Content RowFault
row_content row = do
  price ← field column.Price row.price (price_of row.price)
  size ← field column.Size row.size (number_within 1 SIZE_MOST row.size)
  condition ← field column.Condition row.condition (condition_of row.condition)
  Ok (record { price = price; size = size; condition = condition })

-- no content
unfoldable pub row_no_content : RowText → Result (Unit {0}) RowFault
row_no_content row = do
  price ← unused column.Price row.price
  size ← unused column.Size row.size
  unused column.Condition row.condition

-- the message of a row of this kind
unfoldable pub row_message_of : Kind → RowText → Result Message RowFault
row_message_of kind.Report row = do
  header ← row_header row
  target ← unused column.Target row.target
  content ← row_content row
  Ok (message.Report header content)
row_message_of kind.Cancel row = do
  header ← row_header row
  target ← row_target row
  content ← row_no_content row
  Ok (message.Cancel header target)
row_message_of kind.Correct row = do
  header ← row_header row
  target ← row_target row
  content ← row_content row
  Ok (message.Correct header target content)
row_message_of kind.Reinstate row = do
  header ← row_header row
  target ← row_target row
  content ← row_no_content row
  Ok (message.Reinstate header target)

-- the message that a row spells, or the first fault in the order of the columns
unfoldable pub row_message : RowText → Result Message RowFault
row_message row = do
  kind ← field column.Kind row.kind (kind_of row.kind)
  row_message_of kind row
