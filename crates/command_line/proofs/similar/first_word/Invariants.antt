use Rattle.std.proofs.Common.{◌≡◌, find, length}
use Rattle.command_line.specs.Similar.{is_word_near}
use Rattle.command_line.proofs.similar.first_word.Given as goal

-- the command is the first of those that are left
abbrev pub invariant-loop-rest : goal.invariant-loop-rest
invariant-loop-rest l = find (is_word_near l.edits l.name) l.fn.words ≡ find (is_word_near l.edits l.name) l.rest

abbrev pub decreases-loop-rest : goal.decreases-loop-rest
decreases-loop-rest l = length l.rest
