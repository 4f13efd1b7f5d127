use Rattle.csv_days.proofs.EntryLemmas.{rows_of_entries}
use Rattle.csv_days.proofs.entry_rows.rows_of_entries.Goals as goal

pub returns : goal.returns
returns c = record { holds = rows_of_entries }
