use Rattle.std.proofs.Common.{◌∙◌, sym, ap, subst, Ok}
use Rattle.std.proofs.lemmas.Result.{IfOk-weaker}
use Rattle.tape_core.specs.Ending.{KeepsEnd}
use Rattle.tape_core.specs.Lemmas.Answered.{answer-admitted, answer-refused, tape_after-admitted, tape_after-refused}
use Rattle.tape_core.proofs.end_tape.EndTape.answer.Goals as goal

pub returns-in-Ok-clause-tape : goal.returns-in-Ok-clause-tape
returns-in-Ok-clause-tape c = λ t keeps lists.
    let answers = c.in-Ok.ensures.answers t keeps lists in
    subst (λ s. KeepsEnd s c.admit.new.self) (sym (tape_after-admitted t c.args.message answers.0)) answers.2

pub returns-in-Ok-clause-answer : goal.returns-in-Ok-clause-answer
returns-in-Ok-clause-answer c = λ t keeps lists.
    let answers = c.in-Ok.ensures.answers t keeps lists in
    ap (λ n. Ok n) answers.1 ∙ sym (answer-admitted t c.args.message answers.0)

pub returns-in-Err-clause-tape : goal.returns-in-Err-clause-tape
returns-in-Err-clause-tape c = IfOk-weaker c.answer_of.result _ _
    (λ _ is t keeps lists.
    let answers = c.in-Err.ensures.answers t keeps lists in
    subst (λ s. KeepsEnd s c.admit.new.self) (sym (tape_after-refused t c.args.message c.in-Err.refusal answers.0 is.1)) answers.1)
    c.answer_of.ensures.answer

pub returns-in-Err-clause-answer : goal.returns-in-Err-clause-answer
returns-in-Err-clause-answer c = IfOk-weaker c.answer_of.result _ _
    (λ _ is t keeps lists. is.0 ∙ sym (answer-refused t c.args.message c.in-Err.refusal (c.in-Err.ensures.answers t keeps lists).0 is.1))
    c.answer_of.ensures.answer
