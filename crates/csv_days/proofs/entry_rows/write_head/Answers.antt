use Rattle.csv_days.specs.TapeRows.{head_line}
use Rattle.csv_days.proofs.EndLemmas.{any_error}
use Rattle.csv_days.proofs.TapeLemmas.{nothing_written}
use Rattle.csv_days.proofs.entry_rows.write_head.Goals as goal

pub returns-in_err-head-clause-prefix : goal.returns-in_err-head-clause-prefix
returns-in_err-head-clause-prefix g c = any_error c.from_residual.result _ (nothing_written head_line (g.W.Write.contents c.args.writer.now))
