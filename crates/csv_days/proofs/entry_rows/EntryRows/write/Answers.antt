use Rattle.csv_days.specs.TapeRows.{entry_row, row_line}
use Rattle.csv_days.proofs.EndLemmas.{any_error}
use Rattle.csv_days.proofs.TapeLemmas.{nothing_written}
use Rattle.csv_days.proofs.entry_rows.EntryRows.write.Goals as goal

pub returns-in_err-make-clause-prefix : goal.returns-in_err-make-clause-prefix
returns-in_err-make-clause-prefix g c =
    any_error c.from_residual.result _ (nothing_written (row_line (entry_row c.args.entry.now c.args.figures.now)) (g.W.Write.contents c.args.writer.now))
