use Rattle.std.proofs.Common.{Err, refl}
use Rattle.desk_words.proofs.VerifyLemmas.{runs-verdict}
use Rattle.desk_words.proofs.program.run_verify.Goals as goal

pub returns-in-Ok-clause-runs : goal.returns-in-Ok-clause-runs
returns-in-Ok-clause-runs g c =
    runs-verdict c.args.matrix (g.R.Read.remaining c.args.reader.now) _ _ _ _ _ _ _ _ _ c.in-Ok.verdict
    (rw c.in-Ok.is at c.verify_over.ensures.verdict) c.write_verdict.ensures.tells

pub returns-in-Err-clause-runs : goal.returns-in-Err-clause-runs
returns-in-Err-clause-runs g c = record {
  run = Err c.in-Err.end;
  finds = rw c.in-Err.is at c.verify_over.ensures.end;
  tells = (c.say_end.ensures.status, refl, c.say_end.ensures.said);
}
