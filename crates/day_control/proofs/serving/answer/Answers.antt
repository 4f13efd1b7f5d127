use Rattle.day_control.proofs.ServeLemmas.{unknown_answered, unknown_failed}
use Rattle.day_control.proofs.serving.answer.Goals as goal

pub returns-in-None-clause-ok : goal.returns-in-None-clause-ok
returns-in-None-clause-ok g c = rw c.in-None.is (unknown_answered c.answer_unknown.result _ _ _ c.answer_unknown.ensures.ok)

pub returns-in-None-clause-err : goal.returns-in-None-clause-err
returns-in-None-clause-err g c =
    let calls = g.O.Operator.calls c.args.operator.now in
    rw c.in-None.is
    (unknown_failed c.answer_unknown.result calls (g.W.Write.contents c.args.writer.now) (g.W.Write.contents c.answer_unknown.new.writer) c.answer_unknown.ensures.err)
