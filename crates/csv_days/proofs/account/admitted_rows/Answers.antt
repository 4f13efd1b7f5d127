use Rattle.std.proofs.Common.{◌∙◌, ap, arith, refl, sym}
use Rattle.tape_core.specs.Tape.{TapeState}
use Rattle.tape_core.specs.Answers.{tape_after}
use Rattle.csv_days.proofs.AccountLemmas.{admitted_rows-none, rows-more}
use Rattle.csv_days.proofs.DayLemmas.{AnswersMore-none, AnswersMore-one, tapes-more}
use Rattle.csv_days.proofs.account.admitted_rows.Goals as goal

pub loop-message-init : goal.loop-message-init
loop-message-init c = record {
  rows = cc (admitted_rows-none c.args.day.now.tape c.args.day.now.row);
  tape = refl;
  row = omega arith;
  more = AnswersMore-none c.args.day.now;
}

pub loop-message-preserved : goal.loop-message-preserved
loop-message-preserved c =
    let t = c.args.day.now.tape in
    let messages = c.args.messages.now in
    let i = c.loop-message.message-index in
    let m = c.message-item.result in
    let is = sym c.message-item.is in
    let had = c.loop-message.invariant in
    record {
      rows = rows-more t c.loop-message.day.tape messages c.args.day.now.row i c.loop-message.day.row m c.in_ok-answered.answered _ _ c.loop-message-test.true is
          had.tape had.row c.in_ok-answered.ensures.answer had.rows c.in_ok-note_row.ensures;
      tape = c.in_ok-answered.ensures.tape ∙ ap (λ (s : TapeState). tape_after s m) had.tape ∙ sym (tapes-more t messages i m c.loop-message-test.true is);
      row = omega (arith, c.in_ok-answered.ensures.row, had.row);
      more = AnswersMore-one c.args.day.now c.loop-message.day c.answer.new.self messages i m c.loop-message-test.true is had.more
          c.in_ok-answered.ensures.more;
    }
