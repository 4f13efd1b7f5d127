use Rattle.csv_days.proofs.SumLemmas.{rows_add_up}
use Rattle.csv_days.proofs.explain.rows_add_up.Goals as goal

pub returns : goal.returns
returns c = record { holds = rows_add_up }
