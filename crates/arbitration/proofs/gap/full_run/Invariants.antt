use Rattle.std.proofs.Common.{◌≡◌, ◌+◌, ◌-◌, ◌≤◌, length, drop}
use Rattle.arbitration.specs.Windows.{ready_entries}
use Rattle.arbitration.proofs.gap.full_run.Given as goal

abbrev pub invariant-loop-full : goal.invariant-loop-full
invariant-loop-full l = record {
  within : l.full ≤ length l.slots.items;
  so_far : length (ready_entries l.slots.items) ≡ l.full + length (ready_entries (drop l.full l.slots.items));
}

abbrev pub decreases-loop-full : goal.decreases-loop-full
decreases-loop-full l = length l.slots.items - l.full
