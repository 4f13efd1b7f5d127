use Rattle.std.proofs.Common.{subst, sym}
use Rattle.journal_days.specs.Verdicts.{IsVerdict}
use Rattle.journal_days.proofs.DayLemmas.{day_stands}
use Rattle.journal_days.proofs.verify.verify_journal.Goals as goal

pub returns-in-Ok-clause-verdict : goal.returns-in-Ok-clause-verdict
returns-in-Ok-clause-verdict c =
    subst (IsVerdict c.args.asked c.args.bytes.now) (sym c.verdict_on.ensures) (day_stands c.args.asked c.args.bytes.now c.in-Ok.day c.in-Ok.ensures.day)
