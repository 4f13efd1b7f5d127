use Rattle.std.proofs.Common.{◌≡◌, take}
use Rattle.std.specs.List.{flat_map}
use Rattle.message_texts.specs.OwnBytes.{own_bytes}
use Rattle.message_texts.proofs.form.OwnBytesForm.text_of.Given as goal

-- the texts of the messages so far
abbrev pub invariant-loop-message : goal.invariant-loop-message
invariant-loop-message l = l.bytes.items ≡ flat_map (own_bytes l.self.participant) (take l.message-index l.messages)
