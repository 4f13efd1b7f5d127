use Rattle.std.proofs.Common.{arith, subst, take}
use Rattle.std.proofs.lemmas.List.{take_all, take_more}
use Rattle.csv_days.specs.EndDays.{AreNames}
use Rattle.csv_days.proofs.day_names.DayNames.of_messages.Goals as goal

pub loop-message-preserved : goal.loop-message-preserved
loop-message-preserved c =
    let messages = c.args.messages.now in
    let i = c.loop-message.message-index in
    rw (take_more messages i c.message-item.result c.loop-message-test.true, ← c.message-item.is) (c.in_ok-add.ensures (take i messages) c.loop-message.invariant)

pub returns : goal.returns
returns c =
    subst (λ l. AreNames l c.loop-message.names)
    (take_all c.loop-message.message-index c.args.messages.now (omega (arith, c.loop-message-test.false))) c.loop-message.invariant
