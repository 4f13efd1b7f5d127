use Rattle.std.proofs.Common.{◌≤◌, ◌-◌}
use Rattle.whole_io.specs.Writing.{WritesUpTo}
use Rattle.csv_days.specs.Explained.{explained_to}
use Rattle.csv_days.proofs.explain.write_rows.Given as goal

-- the text as far as the entries so far is written up to what is gathered
abbrev pub invariant-loop-from : goal.invariant-loop-from
invariant-loop-from g l = record {
  within : l.from ≤ l.count;
  pending : WritesUpTo (explained_to l.account.day.tape l.account.rows.items l.from) l.text.items
      (g.W.Write.contents l.fn.writer) (g.W.Write.contents l.writer);
}

abbrev pub decreases-loop-from : goal.decreases-loop-from
decreases-loop-from g l = l.count - l.from
