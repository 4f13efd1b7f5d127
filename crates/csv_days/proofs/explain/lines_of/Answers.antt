use Rattle.std.proofs.Common.{arith, refl}
use Rattle.csv_days.proofs.ExplainLemmas.{lines-more}
use Rattle.csv_days.proofs.explain.lines_of.Goals as goal

pub loop-index-preserved : goal.loop-index-preserved
loop-index-preserved c = record {
  start = c.in_ok-put_entry.ensures.start;
  lines = lines-more c.args.account.now.day.tape c.args.account.now.rows.items c.args.from c.loop-index.index _ _ _
      (omega (arith, c.loop-index-test.true, c.requires.within)) refl c.loop-index.invariant.lines c.in_ok-put_entry.ensures.text;
}
