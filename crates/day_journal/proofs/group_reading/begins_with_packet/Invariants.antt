use Rattle.std.proofs.Common.{◌≡◌, ◌+◌, ◌≤◌, length}
use Rattle.day_journal.specs.GroupReading.{begins_with_packet}
use Rattle.day_journal.proofs.group_reading.begins_with_packet.Given as goal

-- the fronts that are left decide the result
abbrev pub invariant-loop-len : goal.invariant-loop-len
invariant-loop-len l = record {
  within : l.len ≤ length l.bytes + 1;
  left : begins_with_packet l.len l.bytes ≡ begins_with_packet (length l.bytes + 1) l.bytes;
}

abbrev pub decreases-loop-len : goal.decreases-loop-len
decreases-loop-len l = l.len
