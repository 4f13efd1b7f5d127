use Rattle.std.proofs.Common.{◌≡◌, ◌++◌, length, take}
use Rattle.std.specs.Prelude.{flat_map}
use Rattle.std.specs.Int.{w8, to_be_bytes}
use Rattle.day_journal.proofs.header.put_participants.Given as goal

-- the number and the participants so far are written
abbrev pub invariant-loop-participant : goal.invariant-loop-participant
invariant-loop-participant l = l.text.items ≡ l.fn.text.items ++ (to_be_bytes w8 (length l.participants) ++ flat_map (λ p. to_be_bytes w8 p) (take l.participant-index l.participants))
