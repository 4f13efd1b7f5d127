use Rattle.std.proofs.Common.{◌≡◌, ◌+◌, fold, take}
use Rattle.tape_core.specs.Answers.{answers, tape_after}
use Rattle.csv_days.specs.Days.{AnswersMore}
use Rattle.csv_days.specs.Explained.{admitted_rows}
use Rattle.csv_days.proofs.account.admitted_rows.Given as goal

-- the messages so far are answered, and the rows of those that are admitted are noted
abbrev pub invariant-loop-message : goal.invariant-loop-message
invariant-loop-message l = record {
  rows : l.rows.items ≡ admitted_rows l.fn.day.row (answers l.fn.day.tape (take l.message-index l.messages));
  tape : l.day.tape ≡ fold tape_after l.fn.day.tape (take l.message-index l.messages);
  row : l.day.row ≡ l.fn.day.row + l.message-index;
  more : AnswersMore l.fn.day l.day (take l.message-index l.messages);
}
