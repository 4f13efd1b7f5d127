use Rattle.std.proofs.Common.{◌≡◌, take}
use Rattle.csv_lines.specs.Lines.{IsAtLineStart, lines_text}
use Rattle.csv_messages.specs.TableTexts.{table_text}
use Rattle.csv_messages.proofs.table_text.text_of.Given as goal

abbrev pub invariant-loop-message : goal.invariant-loop-message
invariant-loop-message l = record {
  start : IsAtLineStart l.writer;
  -- what is written is the text of the messages so far
  text : lines_text l.writer ≡ table_text (take l.message-index l.messages);
}
