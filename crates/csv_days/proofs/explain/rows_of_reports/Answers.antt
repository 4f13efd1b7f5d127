use Rattle.csv_days.proofs.FigureLemmas.{rows_of_reports}
use Rattle.csv_days.proofs.explain.rows_of_reports.Goals as goal

pub returns : goal.returns
returns c = record { holds = rows_of_reports }
