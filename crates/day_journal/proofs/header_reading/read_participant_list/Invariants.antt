use Rattle.std.proofs.Common.{◌≡◌, ◌-◌, []}
use Rattle.day_journal.specs.Headers.{participant_at, values_at}
use Rattle.day_journal.proofs.header_reading.read_participant_list.Given as goal

-- the participants so far and those that are left are all of them
abbrev pub invariant-loop-place : goal.invariant-loop-place
invariant-loop-place l = values_at participant_at (l.count - l.place) l.participants.items l.unread.rest.now ≡ values_at participant_at l.fn.count [] l.fn.unread.rest.now
