use Rattle.std.proofs.Common.{Some, arith, refl, rules, slice_set}
use Rattle.csv_days.proofs.RefusalLemmas.{AreReasons-refused}
use Rattle.csv_days.proofs.refusals.Refusals.add.Goals as goal

pub returns-clause-counts : goal.returns-clause-counts
returns-clause-counts c = λ answers row had.
    AreReasons-refused c.args.self.now
    (record c.args.self.now { reasons = slice_set c.args.self.now.reasons c.position-place.result (Some c.one_more-more.result) }) c.args.refusal c.position-place.result c.args.row c.one_more-more.result answers
    (search rules) c.position-place.ensures.position refl c.one_more-more.ensures (omega (arith, c.ranges.row.fits)) row had
