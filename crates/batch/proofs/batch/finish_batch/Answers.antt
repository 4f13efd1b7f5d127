use Rattle.batch.proofs.FinishLemmas.{Finishes-flushed}
use Rattle.batch.proofs.batch.finish_batch.Goals as goal

pub returns-in_default : goal.returns-in_default
returns-in_default g c = record {
  finishes = Finishes-flushed c.args.read.now c.write_batch.result c.flushed.result _ _ _ c.write_batch.ensures.finishes c.flushed.ensures.kept
      c.flushed.ensures.end;
}
