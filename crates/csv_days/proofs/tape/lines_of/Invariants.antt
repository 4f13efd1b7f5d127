use Rattle.std.proofs.Common.{◌≡◌, ◌+◌, fold, take}
use Rattle.csv_lines.specs.Lines.{IsAtLineStart, lines_text}
use Rattle.tape_core.specs.Answers.{tape_after}
use Rattle.csv_days.specs.Days.{AnswersMore}
use Rattle.csv_days.specs.TapeRows.{rows_text, tape_rows}
use Rattle.csv_days.proofs.tape.lines_of.Given as goal

-- the messages so far are answered, and their rows are written
abbrev pub invariant-loop-message : goal.invariant-loop-message
invariant-loop-message l = record {
  start : IsAtLineStart l.writer;
  text : lines_text l.writer ≡ rows_text (tape_rows l.fn.day.tape (take l.message-index l.messages));
  tape : l.day.tape ≡ fold tape_after l.fn.day.tape (take l.message-index l.messages);
  row : l.day.row ≡ l.fn.day.row + l.message-index;
  more : AnswersMore l.fn.day l.day (take l.message-index l.messages);
}
