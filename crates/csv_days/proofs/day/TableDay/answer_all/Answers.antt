use Rattle.std.proofs.Common.{arith, sym}
use Rattle.csv_days.proofs.DayLemmas.{AnswersMore-none, AnswersMore-one}
use Rattle.csv_days.proofs.day.TableDay.answer_all.Goals as goal

pub loop-message-init : goal.loop-message-init
loop-message-init c = record { more = AnswersMore-none c.args.self.now; row = omega arith }

pub loop-message-preserved : goal.loop-message-preserved
loop-message-preserved c = record {
  more = AnswersMore-one c.args.self.now c.loop-message.self c.answer.new.self c.args.messages.now c.loop-message.message-index c.message-item.result
      c.loop-message-test.true (sym c.message-item.is) c.loop-message.invariant.more c.in_ok-answer.ensures.more;
  row = omega (arith, c.in_ok-answer.ensures.row, c.loop-message.invariant.row);
}
