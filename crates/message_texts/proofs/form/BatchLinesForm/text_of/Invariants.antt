use Rattle.std.proofs.Common.{◌≡◌, take}
use Rattle.std.specs.List.{flat_map}
use Rattle.message_texts.specs.EncodedTexts.{message_line}
use Rattle.message_texts.proofs.form.BatchLinesForm.text_of.Given as goal

-- the texts of the messages so far
abbrev pub invariant-loop-message : goal.invariant-loop-message
invariant-loop-message l = l.lines.items ≡ flat_map message_line (take l.message-index l.messages)
