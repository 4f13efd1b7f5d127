use Rattle.std.proofs.Common.{◌≡◌, ◌∷◌, ◌++◌, [], rules}
use Rattle.batch.proofs.DayLemmas.{AnswersLines-line, RunsOut-more}
use Rattle.batch.proofs.day.BatchDay.answer_line.Goals as goal

pub returns-then-self-clause-answered : goal.returns-then-self-clause-answered
returns-then-self-clause-answered c = λ t before so_far.
    rw c.if-self.true (RunsOut-more t before _ c.args.self.now.answers.items (rw c.if-self.true at so_far))

pub returns-clause-answered : goal.returns-clause-answered
returns-clause-answered c = λ t before so_far.
    let pushed : c.push.new.self.items ≡ c.args.self.now.answers.items ++ c.answer-answer.result ∷ [] = search rules in
    AnswersLines-line t before c.args.line.now c.args.self.now.tape c.answer-answer.new.tape c.args.self.now.answers.items c.push.new.self.items
    c.answer-answer.result c.lacks_memory-self.result
    pushed c.lacks_memory-self.ensures c.answer-answer.ensures.answer c.answer-answer.ensures.tape c.answer-answer.ensures.memory
    (rw c.if-self.false at so_far)
