use Rattle.std.proofs.Common.{refl}
use Rattle.csv_messages.specs.Columns.{header_columns}
use Rattle.csv_messages.proofs.columns.Columns.of_header.Goals as goal

pub returns : goal.returns
unfolding header_columns
returns c = record {
  columns = rw (
    ← c.in_default.ensures,
    ← c.in_ok-participant.ensures,
    ← c.in_ok-number.ensures,
    ← c.in_ok-symbol.ensures,
    ← c.in_ok-price.ensures,
    ← c.in_ok-size.ensures,
    ← c.in_ok-condition.ensures,
    c.optional.ensures,
    c.optional-2.ensures,
    c.optional-3.ensures,
    c.len.ensures,
  ) refl;
}
