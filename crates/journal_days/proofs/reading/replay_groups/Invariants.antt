use Rattle.std.proofs.Common.{◌-◌}
use Rattle.day_journal.specs.Journals.{groups_at}
use Rattle.journal_days.proofs.GroupLemmas.{Replayed}
use Rattle.journal_days.proofs.reading.replay_groups.Given as goal

-- the groups so far are on the tape, and the others are left
abbrev pub invariant-loop-turn : goal.invariant-loop-turn
invariant-loop-turn l = Replayed l.fn.tape l.tape (groups_at l.turns l.fn.groups) (groups_at (l.turns - l.turn) l.groups)
