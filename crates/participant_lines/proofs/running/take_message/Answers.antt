use Rattle.std.proofs.Common.{◌≡◌, ◌∙◌, ap, rules}
use Rattle.reports.specs.Messages.{header_of}
use Rattle.participant_lines.specs.Runs.{effect_of}
use Rattle.participant_lines.proofs.Steps.{answered, stopped, taken}
use Rattle.participant_lines.proofs.running.take_message.Goals as goal

pub returns-clause-ok : goal.returns-clause-ok
returns-clause-ok g c =
    let tells = answered g.D.DayName.terms c.args.seat.now c.admit.new.seat c.args.message c.admit.result c.admit.ensures.ok c.admit.ensures.err in
    let number : c.value-number.result ≡ (header_of c.args.message).number = search rules in
    taken g.D.DayName.terms c.args.seat.now c.admit.new.seat c.args.message c.admit.result c.effect_of.result tells
    (c.effect_of.ensures ∙ ap (λ n. effect_of n c.admit.result) number)

pub returns-clause-err : goal.returns-clause-err
returns-clause-err g c =
    let tells = answered g.D.DayName.terms c.args.seat.now c.admit.new.seat c.args.message c.admit.result c.admit.ensures.ok c.admit.ensures.err in
    let number : c.value-number.result ≡ (header_of c.args.message).number = search rules in
    stopped g.D.DayName.terms c.args.seat.now c.admit.new.seat c.args.message c.admit.result c.effect_of.result tells
    (c.effect_of.ensures ∙ ap (λ n. effect_of n c.admit.result) number)
