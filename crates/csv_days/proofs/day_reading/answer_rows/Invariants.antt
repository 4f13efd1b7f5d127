use Rattle.csv_messages.specs.TableReading.{ReadsRows}
use Rattle.csv_days.specs.EndDays.{ReadsMore}
use Rattle.csv_days.proofs.day_reading.answer_rows.Given as goal

-- the rows so far were read, and their messages answered
abbrev pub invariant-loop : goal.invariant-loop
invariant-loop g l = record {
  reads : ReadsRows l.rows;
  more : ReadsMore g.R.Read.remaining l.fn.rows l.rows l.fn.day l.day;
}
