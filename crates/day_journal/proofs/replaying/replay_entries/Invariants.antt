use Rattle.std.proofs.Common.{◌≡◌, take}
use Rattle.day_journal.specs.Replays.{with_entries}
use Rattle.day_journal.proofs.replaying.replay_entries.Given as goal

-- the entries so far are on the tape
abbrev pub invariant-loop-entry : goal.invariant-loop-entry
invariant-loop-entry g l = l.tape ≡ with_entries l.fn.tape (take l.entry-index l.entries)
