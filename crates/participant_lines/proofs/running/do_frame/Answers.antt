use Rattle.std.proofs.Common.{Some, inl, inr, refl, subst}
use Rattle.std.proofs.lemmas.Result.{IfOk-weaker}
use Rattle.participant_lines.specs.Frames.{IsSpelled}
use Rattle.participant_lines.specs.declared.tally.Reason.TheVariants.{Unspelled}
use Rattle.participant_lines.proofs.Steps.{does_one}
use Rattle.participant_lines.proofs.running.do_frame.Goals as goal

pub returns-in-Ok-clause-ok : goal.returns-in-Ok-clause-ok
returns-in-Ok-clause-ok g c =
    let remaining = g.R.Read.remaining in
    let read = c.in_ok-message.ensures.ok in
    let spells = subst (IsSpelled read.0) c.in-Ok.is read.3 in
    IfOk-weaker c.take_message.result _ _ (λ mark takes. does_one g.D.DayName.terms c.args.seat.now c.take_message.new.seat
    (remaining c.args.reader.now) (remaining c.read_spelled.new.reader) read.0 mark read.1 (inr (c.in-Ok.message, spells, takes)) read.2)
    c.take_message.ensures.ok

pub returns-in-Err-clause-ok : goal.returns-in-Err-clause-ok
returns-in-Err-clause-ok g c =
    let remaining = g.R.Read.remaining in
    let read = c.in_ok-message.ensures.ok in
    let fault = subst (IsSpelled read.0) c.in-Err.is read.3 in
    does_one g.D.DayName.terms c.args.seat.now c.args.seat.now (remaining c.args.reader.now) (remaining c.read_spelled.new.reader) read.0
    (Some (record { reason = Unspelled c.in-Err.fault; number = 0 }))
    read.1 (inl (c.in-Err.fault, fault, refl, refl)) read.2
