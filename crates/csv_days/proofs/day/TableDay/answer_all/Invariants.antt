use Rattle.std.proofs.Common.{◌≡◌, ◌+◌, take}
use Rattle.csv_days.specs.Days.{AnswersMore}
use Rattle.csv_days.proofs.day.TableDay.answer_all.Given as goal

-- the messages so far are answered
abbrev pub invariant-loop-message : goal.invariant-loop-message
invariant-loop-message l = record {
  more : AnswersMore l.fn.self l.self (take l.message-index l.messages);
  row : l.self.row ≡ l.fn.self.row + l.message-index;
}
