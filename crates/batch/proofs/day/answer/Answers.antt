use Rattle.std.proofs.Common.{◌≡◌, ◌∙◌, Err, Ok, ap, rules, sym}
use Rattle.tape_core.specs.declared.refusal.Refusal.TheVariants.{OutOfMemory}
use Rattle.batch.specs.declared.batch_refusal.BatchRefusal.TheVariants.{Refused}
use Rattle.batch.proofs.RefusalLemmas.{answered_line, line_message-other, refused-other, refused_tape, tape_line}
use Rattle.batch.proofs.day.answer.Goals as goal

pub returns-in_err-message-clause-memory : goal.returns-in_err-message-clause-memory
returns-in_err-message-clause-memory c = λ memory.
    let is : c.in_err-message.field-0.0 ≡ Refused OutOfMemory = search (rules, memory) in
    absurd (line_message-other c.args.line.now (sym c.in_err-message.ensures ∙ ap Err is))

pub returns-in-Ok-Ok-clause-answer : goal.returns-in-Ok-Ok-clause-answer
returns-in-Ok-Ok-clause-answer c = λ other.
    answered_line c.args.tape.now c.args.line.now c.in_ok-message.message (Ok c.in-Ok-Ok.number) c.in_ok-message.ensures (rw c.in-Ok-Ok.field-0-is at c.in-Ok-Ok.ensures.answer)

pub returns-in-Ok-Ok-clause-tape : goal.returns-in-Ok-Ok-clause-tape
returns-in-Ok-Ok-clause-tape c = λ other.
    tape_line c.args.tape.now c.answer.new.self c.args.line.now c.in_ok-message.message c.in_ok-message.ensures c.in-Ok-Ok.ensures.tape

pub returns-in-Ok-Err-clause-answer : goal.returns-in-Ok-Err-clause-answer
returns-in-Ok-Err-clause-answer c = λ other.
    answered_line c.args.tape.now c.args.line.now c.in_ok-message.message (Err c.in-Ok-Err.refusal) c.in_ok-message.ensures (rw c.in-Ok-Err.field-0-is at c.in-Ok-Err.ensures.answer)

pub returns-in-Ok-Err-clause-tape : goal.returns-in-Ok-Err-clause-tape
returns-in-Ok-Err-clause-tape c = λ other.
    tape_line c.args.tape.now c.answer.new.self c.args.line.now c.in_ok-message.message c.in_ok-message.ensures c.in-Ok-Err.ensures.tape

pub returns-in-Ok-Err-clause-refused : goal.returns-in-Ok-Err-clause-refused
returns-in-Ok-Err-clause-refused c =
    c.in-Ok-Err.ensures.tape ∙ refused_tape c.args.tape.now c.in_ok-message.message c.in-Ok-Err.refusal (rw c.in-Ok-Err.field-0-is at c.in-Ok-Err.ensures.answer)

pub returns-in-Ok-Err-clause-memory : goal.returns-in-Ok-Err-clause-memory
returns-in-Ok-Err-clause-memory c = λ memory.
    absurd (refused-other c.args.tape.now c.in_ok-message.message c.in-Ok-Err.refusal (rw c.in-Ok-Err.field-0-is at c.in-Ok-Err.ensures.answer) (cc))
