use Rattle.csv_days.proofs.FigureLemmas.{cancelled_set_nothing, rows_of_figures, rows_of_own_figures}
use Rattle.csv_days.proofs.explain.rows_of_figures.Goals as goal

pub returns : goal.returns
returns c = record { consolidated = rows_of_figures; own = rows_of_own_figures; cancelled = cancelled_set_nothing }
