use Rattle.std.proofs.Common.{◌≡◌, length}
use Rattle.csv_messages.specs.TableReading.{ReadsRows, TakesMore}
use Rattle.csv_messages.proofs.row_reader.RowReader.piece.Given as goal

-- the messages so far are those of the rows so far, one for each turn
abbrev pub invariant-loop-taken : goal.invariant-loop-taken
invariant-loop-taken g l = record {
  reads : ReadsRows l.self;
  count : length l.messages.items ≡ l._taken;
  more : TakesMore g.R.Read.remaining l.fn.self l.self l.messages.items;
}
