use Rattle.std.proofs.Common.{List, ℕ, ◌∙◌, subst}
use Rattle.std.specs.List.{flat_map}
use Rattle.batch.specs.Batch.{answer_line, tape_report}
use Rattle.batch.specs.Finish.{report_unless}
use Rattle.whole_io.specs.Writing.{WritesPrefix}
use Rattle.whole_io.specs.Lemmas.WriteLemmas.{WritesPrefix-longer, WritesPrefix-then}
use Rattle.batch.proofs.batch.write_answered.Goals as goal

pub returns-in_err-write_answers-clause-fault : goal.returns-in_err-write_answers-clause-fault
returns-in_err-write_answers-clause-fault g c = λ fault.
    WritesPrefix-longer (flat_map answer_line c.args.day.now.answers.items) (report_unless c.args.day.now.is_stopped c.args.day.now.tape) _ _
    (rw c.deref.ensures.value at c.in_err-write_answers.ensures.prefix)

pub returns-in_err-write_text-clause-fault : goal.returns-in_err-write_text-clause-fault
returns-in_err-write_text-clause-fault g c = λ fault.
    let report = subst (λ (l : List ℕ). WritesPrefix l (g.W.Write.contents c.write_answers.new.writer) (g.W.Write.contents c.write_text.new.writer))
    (c.deref-2.ensures.value ∙ c.in_ok-text.ensures) c.in_err-write_text.ensures.prefix in
    rw c.if-day.false (WritesPrefix-then (flat_map answer_line c.args.day.now.answers.items) (tape_report c.args.day.now.tape) _ _ _
    (rw c.deref.ensures.value at c.in_ok-write_answers.ensures.written) report)
