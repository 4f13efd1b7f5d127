use Rattle.std.proofs.Common.{◌≡◌, ◌++◌}
use Rattle.csv_lines.specs.Lines.{IsAtLineStart, lines_text}
use Rattle.csv_days.specs.Explained.{explained_to}
use Rattle.csv_days.proofs.explain.lines_of.Given as goal

-- the lines of the entries so far are made
abbrev pub invariant-loop-index : goal.invariant-loop-index
invariant-loop-index l = record {
  start : IsAtLineStart l.writer;
  lines : explained_to l.account.day.tape l.account.rows.items l.index
      ≡ explained_to l.account.day.tape l.account.rows.items l.from ++ lines_text l.writer;
}
