use Rattle.std.proofs.Common.{◌≡◌, ◌+◌, [], ℕ, List, length}
use Rattle.csv_messages.specs.TableReading.{HasRows, ReadsRows, lines_remaining}
use Rattle.csv_messages.specs.Tables.{FIRST_ROW}
use Rattle.csv_days.specs.Checks.{HasNoted}
use Rattle.csv_days.proofs.table_check.TableCheck.add_rows.Given as goal

-- the rows before this number were read and noted
abbrev pub invariant-loop-number : goal.invariant-loop-number
invariant-loop-number g l = record {
  reads : ReadsRows l.rows;
  noted : (input : List ℕ) → HasRows (lines_remaining g.R.Read.remaining) l.fn.rows input []
      → (read : List (List (List ℕ))) × HasRows (lines_remaining g.R.Read.remaining) l.rows input read × (l.number ≡ length read + FIRST_ROW) × HasNoted l.rows.columns read l.self;
}
