use Rattle.std.proofs.Common.{◌∙◌, sym}
use Rattle.csv_messages.proofs.TextLemmas.{table_text-more, table_text-nil}
use Rattle.csv_messages.proofs.table_text.text_of.Goals as goal

pub loop-message-init : goal.loop-message-init
loop-message-init c =
    let columns = c.in_ok-put_line.ensures.text ∙ rw (c.lines_in-writer.ensures.text, c.in_ok-line.ensures.fields) table_text-nil in
    record { start = c.in_ok-put_line.ensures.start; text = columns }

pub loop-message-preserved : goal.loop-message-preserved
loop-message-preserved c = record {
  start = c.in_ok-put_message.ensures.start;
  text = table_text-more c.args.messages.now c.loop-message.message-index c.message-item.result _ _ c.loop-message-test.true
      (sym c.message-item.is) c.loop-message.invariant.text c.in_ok-put_message.ensures.text;
}
