use Rattle.std.proofs.Common.{◌≡◌, ◌-◌, length}
use Rattle.day_journal.specs.GroupReading.{told_at}
use Rattle.day_journal.proofs.group_reading.told.Given as goal

-- what is left has the same number at its end as the whole
abbrev pub invariant-loop-place : goal.invariant-loop-place
invariant-loop-place l = told_at (length l.bytes - l.place) l.rest ≡ told_at (length l.bytes) l.bytes
