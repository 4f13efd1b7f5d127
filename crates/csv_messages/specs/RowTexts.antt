-- What a contract sees of a row's fields.
use Rattle.csv_messages.specs.Rows.{RowText}
use Rattle.csv_messages.specs.declared.table_row.TableRow.{TableRow}

-- the texts that the fields point to
abbrev pub text_of_row : TableRow → RowText
text_of_row row = record {
  kind = row.kind.now;
  participant = row.participant.now;
  number = row.number.now;
  moment = row.moment.now;
  symbol = row.symbol.now;
  target = row.target.now;
  price = row.price.now;
  size = row.size.now;
  condition = row.condition.now;
}
