use Rattle.std.proofs.Common.{◌≡◌, ◌+◌, IfSome, length}
use Rattle.message_texts.proofs.DecodeLemmas.{HasLines}
use Rattle.message_texts.proofs.decode.messages_left.Given as goal

-- the lines before this number were taken, and these are their messages
abbrev pub invariant-loop-number : goal.invariant-loop-number
invariant-loop-number g l = record {
  count : l.number ≡ length l.messages.items + 3;
  read : IfSome (g.B.Read.remaining l.fn.reader) (HasLines (g.B.Read.remaining l.reader) l.messages.items);
}
