use Rattle.std.proofs.Common.{◌≡◌, ◌++◌}
use Rattle.std.specs.List.{flat_map}
use Rattle.std.specs.Slice.Iter.{iter_rest}
use Rattle.tape_core.specs.Ending.{KeepsEnd}
use Rattle.tape_core.specs.Tape.{TapeState}
use Rattle.day_report.specs.Rows.{report_rows, symbol_rows}
use Rattle.day_report.proofs.ends.end_rows.Given as goal

-- the rows so far, and those that are left, are all rows of the tape
abbrev pub invariant-loop-symbol : goal.invariant-loop-symbol
invariant-loop-symbol l = record {
  rows : (t : TapeState) → KeepsEnd t l.fn.tape → t.listing ≡ l.fn.listing → l.rows.items ++ flat_map (symbol_rows t) (iter_rest l.symbol-iterator) ≡ report_rows t;
}
