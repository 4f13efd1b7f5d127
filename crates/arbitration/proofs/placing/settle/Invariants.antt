use Rattle.std.proofs.Common.{◌≡◌, ◌+◌, take}
use Rattle.std.specs.Prelude.{count_by, is_some}
use Rattle.arbitration.specs.Deliveries.{slots_after}
use Rattle.arbitration.specs.Counts.{taken_of}
use Rattle.arbitration.proofs.placing.settle.Given as goal

abbrev pub invariant-loop-entry : goal.invariant-loop-entry
invariant-loop-entry l = record {
  slots : l.slots.items ≡ slots_after (l.base + 1) l.initial.slots.items (take l.entry-index l.entries);
  taken : l.taken ≡ taken_of (l.base + 1) l.initial.slots.items (take l.entry-index l.entries);
  count : count_by is_some l.slots.items ≡ count_by is_some l.initial.slots.items + l.taken.fresh;
}
