use Rattle.std.proofs.Common.{refl}
use Rattle.csv_days.proofs.CountLemmas.{counts-none}
use Rattle.csv_days.proofs.fault_counts.FaultCounts.none.Goals as goal

pub returns : goal.returns
returns c = counts-none _ refl
