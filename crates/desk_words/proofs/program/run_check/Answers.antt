use Rattle.desk_words.proofs.RunLemmas.{check_comes, silent_check}
use Rattle.desk_words.proofs.program.run_check.Goals as goal

pub returns-clause-runs : goal.returns-clause-runs
returns-clause-runs g c = record {
  run = c.check_over-run.result;
  status_is = c.end_check.ensures.status;
  comes = check_comes (g.R.Read.remaining c.args.reader.now) (g.W.Write.contents c.args.writer.now) (g.W.Write.contents c.check_over-run.new.writer)
      c.check_over-run.result c.check_over-run.ensures.written c.check_over-run.ensures.end;
  part = c.check_over-run.ensures.prefix;
  silent = silent_check c.check_over-run.result _ c.check_over-run.ensures.silent;
  quiet = c.end_check.ensures.quiet;
  said = c.end_check.ensures.said;
}
