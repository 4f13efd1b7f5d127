use Rattle.std.proofs.Common.{◌≡◌, take}
use Rattle.journal_days.specs.Texts.{messages_in}
use Rattle.journal_days.proofs.messages.messages_in.Given as goal

-- the messages so far
abbrev pub invariant-loop-entry : goal.invariant-loop-entry
invariant-loop-entry l = l.messages.items ≡ messages_in (take l.entry-index l.entries)
