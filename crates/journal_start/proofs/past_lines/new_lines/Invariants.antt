use Rattle.std.proofs.Common.{◌≡◌, map, take}
use Rattle.journal_start.specs.PastLines.{no_entry}
use Rattle.journal_start.proofs.past_lines.new_lines.Given as goal

-- the lines of the participants so far
abbrev pub invariant-loop-who : goal.invariant-loop-who
invariant-loop-who l = l.lines.items ≡ map no_entry (take l.who-index l.participants)
