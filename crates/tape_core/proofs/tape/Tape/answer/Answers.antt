use Rattle.std.proofs.Common.{◌∙◌, sym}
use Rattle.std.proofs.lemmas.Result.{IfOk-weaker}
use Rattle.tape_core.specs.Lemmas.Answered.{answer-entry, answer-refused, tape_after-admitted, tape_after-refused}
use Rattle.tape_core.proofs.tape.Tape.answer.Goals as goal

pub returns-in-Ok-clause-tape : goal.returns-in-Ok-clause-tape
returns-in-Ok-clause-tape g c =
    c.in-Ok.ensures.answers.2 ∙ sym (tape_after-admitted c.args.self.now c.args.message c.in-Ok.ensures.answers.0)

pub returns-in-Ok-clause-answer : goal.returns-in-Ok-clause-answer
returns-in-Ok-clause-answer g c = answer-entry c.args.self.now c.args.message c.in-Ok.entry c.in-Ok.ensures.answers.0 c.in-Ok.ensures.answers.1

pub returns-in-Err-clause-tape : goal.returns-in-Err-clause-tape
returns-in-Err-clause-tape g c = IfOk-weaker c.answer_of.result _ _
    (λ _ is. c.in-Err.ensures.answers.1 ∙ sym (tape_after-refused c.args.self.now c.args.message c.in-Err.refusal c.in-Err.ensures.answers.0 is.1))
    c.answer_of.ensures.answer

pub returns-in-Err-clause-answer : goal.returns-in-Err-clause-answer
returns-in-Err-clause-answer g c = IfOk-weaker c.answer_of.result _ _
    (λ _ is. is.0 ∙ sym (answer-refused c.args.self.now c.args.message c.in-Err.refusal c.in-Err.ensures.answers.0 is.1))
    c.answer_of.ensures.answer
