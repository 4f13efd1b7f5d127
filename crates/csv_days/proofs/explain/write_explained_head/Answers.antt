use Rattle.csv_days.specs.Explained.{explained_head}
use Rattle.csv_days.proofs.EndLemmas.{any_error}
use Rattle.csv_days.proofs.TapeLemmas.{nothing_written}
use Rattle.csv_days.proofs.explain.write_explained_head.Goals as goal

pub returns-in_err-head-clause-prefix : goal.returns-in_err-head-clause-prefix
returns-in_err-head-clause-prefix g c = any_error c.from_residual.result _ (nothing_written explained_head (g.W.Write.contents c.args.writer.now))
