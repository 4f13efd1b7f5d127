use Rattle.csv_days.specs.Checks.{more_text}
use Rattle.csv_days.proofs.ToldLemmas.{lines-more}
use Rattle.csv_days.proofs.check.push_kinds.Goals as goal

pub loop-kind-preserved : goal.loop-kind-preserved
loop-kind-preserved c =
    lines-more (more_text c.args.counts.now) c.args.kinds.now c.loop-kind.kind-index _ c.args.text.now.items _ _ c.loop-kind-test.true c.loop-kind.invariant
    c.in_ok-push_kind.ensures
