use Rattle.std.proofs.Common.{refl}
use Rattle.csv_days.proofs.EndDayLemmas.{HasEnded-none}
use Rattle.csv_days.proofs.end_day.EndDay.new.Goals as goal

pub returns : goal.returns
returns c = record { day = HasEnded-none c.args.matrix _ c.new-2.ensures c.new.ensures c.none.ensures.counts c.none.ensures.stale refl }
