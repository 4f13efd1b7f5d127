use Rattle.std.proofs.Common.{◌∙◌, ap, arith, refl, sym}
use Rattle.csv_days.proofs.DayLemmas.{AnswersMore-none, AnswersMore-one, tapes-more}
use Rattle.csv_days.proofs.ListingLemmas.{next-listed}
use Rattle.csv_days.proofs.TapeLemmas.{rows_text-more, rows_text-none}
use Rattle.tape_core.specs.Tape.{TapeState}
use Rattle.tape_core.specs.Answers.{tape_after}
use Rattle.csv_days.proofs.tape.lines_of.Goals as goal

pub loop-message-init : goal.loop-message-init
loop-message-init c = record {
  start = c.lines_in-writer.ensures.start;
  text = c.lines_in-writer.ensures.text ∙ sym (rows_text-none c.args.day.now.tape);
  tape = refl;
  row = omega arith;
  more = AnswersMore-none c.args.day.now;
}

pub put_next-requires : goal.put_next-requires
put_next-requires c = record {
  row = omega (arith, c.loop-message.invariant.row, c.requires.few, c.loop-message-test.true);
  listed = next-listed c.args.day.now.tape c.loop-message.day.tape c.args.messages.now c.loop-message.message-index c.message-item.result
      c.loop-message-test.true (sym c.message-item.is) c.loop-message.invariant.tape c.requires.listed;
  start = c.loop-message.invariant.start;
}

pub loop-message-preserved : goal.loop-message-preserved
loop-message-preserved c =
    let t = c.args.day.now.tape in
    let messages = c.args.messages.now in
    let i = c.loop-message.message-index in
    let m = c.message-item.result in
    let is = sym c.message-item.is in
    let had = c.loop-message.invariant in
    record {
      start = c.in_ok-put_next.ensures.start;
      text = rows_text-more t c.loop-message.day.tape messages i m _ _ c.loop-message-test.true is had.tape had.text c.in_ok-put_next.ensures.text;
      tape = c.in_ok-put_next.ensures.tape ∙ ap (λ (s : TapeState). tape_after s m) had.tape ∙ sym (tapes-more t messages i m c.loop-message-test.true is);
      row = omega (arith, c.in_ok-put_next.ensures.row_number, had.row);
      more = AnswersMore-one c.args.day.now c.loop-message.day c.put_next.new.day messages i m c.loop-message-test.true is had.more c.in_ok-put_next.ensures.more;
    }
