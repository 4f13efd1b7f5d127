use Rattle.std.proofs.Common.{◌≡◌, ◌++◌}
use Rattle.std.specs.List.{filter_map}
use Rattle.std.specs.Slice.Iter.{iter_rest}
use Rattle.tape_core.specs.Ending.{AreFiguresOf}
use Rattle.tape_core.specs.Tape.{TapeState, messages_of}
use Rattle.day_report.specs.Rows.{participant_row, symbol_rows}
use Rattle.day_report.proofs.ends.push_figures.Given as goal

-- the rows so far, and those that are left, are all rows of the symbol
abbrev pub invariant-loop-who : goal.invariant-loop-who
invariant-loop-who l = record {
  rows : (t : TapeState) → t.listing ≡ l.fn.listing → AreFiguresOf t (messages_of t.entries) l.fn.symbol l.fn.figures
      → l.rows.items ++ filter_map (participant_row t l.fn.symbol) (iter_rest l.who-iterator) ≡ l.fn.rows.items ++ symbol_rows t l.fn.symbol;
}
