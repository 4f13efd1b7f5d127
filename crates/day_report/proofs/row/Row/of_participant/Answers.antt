use Rattle.std.proofs.Common.{◌∙◌, sym}
use Rattle.day_report.proofs.RowLemmas.{participant_row-None, participant_row-Some}
use Rattle.day_report.proofs.row.Row.of_participant.Goals as goal

pub returns-then-summary-eq0 : goal.returns-then-summary-eq0
returns-then-summary-eq0 g c =
    sym (participant_row-None c.args.tape.now c.args.index c.args.symbol c.args.who _ c.requires.symbol c.requires.participant
    (sym c.summary_of_at.ensures.summary ∙ c.unwrap-summary.ensures) c.if-summary-eq0.true)

pub returns : goal.returns
returns g c =
    sym (participant_row-Some c.args.tape.now c.args.index c.args.symbol c.args.who _ c.requires.symbol c.requires.participant
    (sym c.summary_of_at.ensures.summary ∙ c.unwrap-summary.ensures) c.if-summary-eq0.false)
