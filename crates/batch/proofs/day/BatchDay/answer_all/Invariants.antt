use Rattle.std.proofs.Common.{◌+◌, ◌-◌}
use Rattle.batch.specs.Batch.{INPUT_MOST}
use Rattle.batch.specs.Day.{AnswersTaken}
use Rattle.batch.proofs.day.BatchDay.answer_all.Given as goal

-- the lines taken so far were answered
abbrev pub invariant-loop-self : goal.invariant-loop-self
invariant-loop-self g l = AnswersTaken l.fn.self l.self (g.B.Read.remaining l.fn.input.left) (g.B.Read.remaining l.input.left) l.fn.input.taken l.input.taken

-- the bytes that may still be taken, one beyond the limit among them
abbrev pub decreases-loop-self : goal.decreases-loop-self
decreases-loop-self g l = INPUT_MOST + 1 - l.input.taken
