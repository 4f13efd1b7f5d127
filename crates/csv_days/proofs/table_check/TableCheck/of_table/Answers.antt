use Rattle.std.proofs.Common.{rules}
use Rattle.csv_days.proofs.CheckLemmas.{notes-none, of-text, open-checks}
use Rattle.csv_days.proofs.table_check.TableCheck.of_table.Goals as goal
use Rattle.csv_days.proofs.table_check.TableCheck.of_table.Goals.{in-Ok+in_ok-add_rows-in-Ok, in-Err-2+in_ok-add_only-in-Err-2}

pub add_rows-requires-clause-fresh : goal.add_rows-requires-clause-fresh
add_rows-requires-clause-fresh g c = notes-none c.none-check.result c.none-check.ensures.told c.none-check.ensures.names

pub returns-clause-check : goal.returns-clause-check
returns-clause-check g c = rw (← c.in_ok-lines.ensures.rest) (elim c.match-open.branch [
  | in-Ok+in_ok-add_rows-in-Ok w ↦ rw w.check-is (search rules)
  | in-Err-2+in_ok-add_only-in-Err-2 w ↦
      rw w.check-is (open-checks _ w.in-Err.fault w.add_only.new.self w.in-Err.ensures.only
      (of-text w.in-Err.fault (λ e. cc (w.if-is_of_reading.ensures.1 e)))
      (w.in_ok-add_only-in-Err-2.ensures.told c.none-check.ensures.told) (rw w.add_only.ensures.names c.none-check.ensures.names))
])
