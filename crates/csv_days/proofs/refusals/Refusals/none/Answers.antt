use Rattle.std.proofs.Common.{None, refl, replicate}
use Rattle.csv_days.proofs.RefusalLemmas.{AreReasons-none}
use Rattle.csv_days.proofs.refusals.Refusals.none.Goals as goal

pub returns-clause-counts : goal.returns-clause-counts
returns-clause-counts c = record { rows = refl; reasons = AreReasons-none (record { rows = 0; reasons = replicate 13 None; stale = None }) refl }
