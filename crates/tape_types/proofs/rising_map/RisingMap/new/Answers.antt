use Rattle.std.proofs.Common.{ap}
use Rattle.std.specs.Ordering.{nat_cmp}
use Rattle.std.specs.FinMap as map
use Rattle.tape_types.specs.RisingEntries.{keyed}
use Rattle.tape_types.proofs.rising_map.RisingMap.new.Goals as goal

pub returns : goal.returns
returns g c = record { empty = ap (λ es. map.from_entries {R = nat_cmp} (keyed g.K.NumberKey.number es)) c.new.ensures.items }
