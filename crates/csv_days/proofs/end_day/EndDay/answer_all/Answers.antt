use Rattle.std.proofs.Common.{arith, subst, sym, take}
use Rattle.std.proofs.lemmas.List.{take_all}
use Rattle.csv_days.specs.EndDays.{EndsMore}
use Rattle.csv_days.proofs.EndDayLemmas.{EndsMore-none, EndsMore-one, IsEnding-more}
use Rattle.csv_days.proofs.end_day.EndDay.answer_all.Goals as goal

pub loop-message-init : goal.loop-message-init
loop-message-init c = EndsMore-none c.args.self.now

pub answer-requires : goal.answer-requires
answer-requires c = record {
  ending = IsEnding-more c.args.self.now c.loop-message.self (take c.loop-message.message-index c.args.messages.now) c.loop-message.invariant c.requires.ending;
}

pub loop-message-preserved : goal.loop-message-preserved
loop-message-preserved c =
    EndsMore-one c.args.self.now c.loop-message.self c.answer.new.self c.args.messages.now c.loop-message.message-index c.message-item.result
    c.loop-message-test.true (sym c.message-item.is) c.loop-message.invariant c.in_ok-answer.ensures.more

pub returns : goal.returns
returns c = record {
  more = subst (EndsMore c.args.self.now c.loop-message.self)
      (take_all c.loop-message.message-index c.args.messages.now (omega (arith, c.loop-message-test.false))) c.loop-message.invariant;
}
