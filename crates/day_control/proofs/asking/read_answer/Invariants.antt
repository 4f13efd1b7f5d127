use Rattle.day_control.proofs.AnswerLemmas.{Reading}
use Rattle.day_control.proofs.asking.read_answer.Given as goal

-- what was read is lines, and then a part of a line
abbrev pub invariant-loop : goal.invariant-loop
invariant-loop g l = Reading (g.R.Read.remaining l.fn.reader) (g.R.Read.remaining l.reader) l.text.items l.is_begun
