use Rattle.csv_days.specs.declared.table_end.TableEnd.TheVariants.{OutOfMemory, WriteFault}
use Rattle.desk_words.proofs.RunLemmas.{part_known, silent_else}
use Rattle.desk_words.proofs.program.run_line.Goals as goal

pub returns-clause-runs : goal.returns-clause-runs
returns-clause-runs g c = record {
  run = c.line_over-run.result;
  status_is = c.end_text.ensures.status;
  written = c.line_over-run.ensures.written;
  ended = c.line_over-run.ensures.end;
  part = λ ended. part_known _ _ _ (c.line_over-run.ensures.prefix ended);
  silent = silent_else WriteFault OutOfMemory c.line_over-run.result _ c.line_over-run.ensures.silent;
  quiet = c.end_text.ensures.quiet;
  said = c.end_text.ensures.said;
}
