use Rattle.std.proofs.Common.{take}
use Rattle.csv_days.specs.EndDays.{AreNames}
use Rattle.csv_days.proofs.day_names.DayNames.of_messages.Given as goal

-- the names of the messages so far
abbrev pub invariant-loop-message : goal.invariant-loop-message
invariant-loop-message l = AreNames (take l.message-index l.messages) l.names
