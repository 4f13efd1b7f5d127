use Rattle.std.proofs.Common.{◌≡◌, ◌+◌, ◌-◌, ◌≤◌, [], length}
use Rattle.tape_types.specs.Ranges.{TAPE_MOST}
use Rattle.day_journal.specs.GroupReading.{packets_at}
use Rattle.day_journal.proofs.group_reading.read_packets.Given as goal

-- the entries so far and the packets that are left are all
abbrev pub invariant-loop-place : goal.invariant-loop-place
invariant-loop-place l = record {
  left : packets_at (length l.fn.unread.rest.now - l.place) l.session l.held l.entries.items l.unread.rest.now
      ≡ packets_at (length l.fn.unread.rest.now) l.session l.held [] l.fn.unread.rest.now;
  within : l.held + length l.entries.items ≤ TAPE_MOST;
}
