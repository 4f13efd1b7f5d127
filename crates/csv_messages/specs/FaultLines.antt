-- What a fault of a table is printed as.
use Rattle.std.specs.Prelude.{ℕ, List, [], ◌++◌, codes, decimal}
use Rattle.csv_messages.specs.ColumnNames.{column_name, column_rule}
use Rattle.csv_messages.specs.declared.column_fault.ColumnFault.{ColumnFault}
use Rattle.csv_messages.specs.declared.column_fault.ColumnFault.TheVariants.{Unknown, Repeated, Missing}
use Rattle.csv_messages.specs.declared.row_fault.RowFault.{RowFault}
use Rattle.csv_messages.specs.declared.row_fault.RowFault.TheVariants.{Fields, Bad, Unused}
use Rattle.csv_messages.specs.declared.table_fault.TableFault.{TableFault}
use Rattle.csv_messages.specs.declared.table_fault.TableFault.TheVariants.{Header, NoRow, Row, ReadFault, OutOfMemory}
use Rattle.csv_messages.specs.FaultTexts.{bad_code_text, has_line_end, hint_text, line_end_text, quoted}
use Rattle.csv_messages.specs.declared.column.Column.{Column}
use Rattle.csv_messages.specs.declared.column.Column.TheVariants as column

-- what a fault of a header row is printed as
abbrev pub column_fault_text : ColumnFault → List ℕ
column_fault_text (Unknown name) = codes "column " ++ (quoted name ++ (codes " is unknown" ++ hint_text name))
column_fault_text (Repeated column) = codes "column " ++ (column_name column ++ codes " stands twice")
column_fault_text (Missing column) = codes "column " ++ (column_name column ++ codes " is missing")

-- of a condition the code that is wrong, and its position; of another column nothing more
abbrev pub detail_text : Column → List ℕ → List ℕ
detail_text column.Condition text = bad_code_text text
detail_text column.Kind text = []
detail_text column.Participant text = []
detail_text column.Number text = []
detail_text column.Moment text = []
detail_text column.Symbol text = []
detail_text column.Target text = []
detail_text column.Price text = []
detail_text column.Size text = []

-- what a fault of a row is printed as
abbrev pub row_fault_text : RowFault → List ℕ
row_fault_text (Fields found wanted over) = decimal found ++ (codes " fields, and the header row has " ++ (decimal wanted ++ line_end_text over))
row_fault_text (Bad column text) =
    column_name column ++ (codes " " ++ (quoted text ++ (codes " is not " ++ (column_rule column ++ (detail_text column text ++ line_end_text (has_line_end text))))))
row_fault_text (Unused column text) =
    column_name column ++ (codes " " ++ (quoted text ++ (codes " has to be empty in a row of this kind" ++ line_end_text (has_line_end text))))

-- what a fault of a table is printed as
abbrev pub table_fault_text : TableFault → List ℕ
table_fault_text (Header fault) = codes "header row: " ++ column_fault_text fault
table_fault_text NoRow = codes "the table has no row"
table_fault_text (Row number fault) = codes "row " ++ (decimal number ++ (codes ": " ++ row_fault_text fault))
table_fault_text ReadFault = codes "a read failed"
table_fault_text OutOfMemory = codes "out of memory"
