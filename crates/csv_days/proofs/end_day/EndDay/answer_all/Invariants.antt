use Rattle.std.proofs.Common.{take}
use Rattle.csv_days.specs.EndDays.{EndsMore}
use Rattle.csv_days.proofs.end_day.EndDay.answer_all.Given as goal

-- the messages so far are answered
abbrev pub invariant-loop-message : goal.invariant-loop-message
invariant-loop-message l = EndsMore l.fn.self l.self (take l.message-index l.messages)
