use Rattle.std.proofs.Common.{[], sym}
use Rattle.message_texts.specs.EncodedTexts.{message_line}
use Rattle.message_texts.proofs.WrittenPieces.{texts-more}
use Rattle.message_texts.proofs.form.BatchLinesForm.text_of.Goals as goal

pub loop-message-preserved : goal.loop-message-preserved
loop-message-preserved c =
    texts-more message_line c.args.messages.now c.loop-message.message-index c.message-item.result _ _ [] c.loop-message-test.true (sym c.message-item.is)
    c.loop-message.invariant c.in_ok-push_line.ensures
