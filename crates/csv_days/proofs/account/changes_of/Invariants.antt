use Rattle.std.proofs.Common.{take}
use Rattle.tape_core.specs.Tape.{messages_of}
use Rattle.csv_days.specs.Accounts.{AreChanges}
use Rattle.csv_days.proofs.account.changes_of.Given as goal

-- the changes by the entries so far are noted
abbrev pub invariant-loop-entry : goal.invariant-loop-entry
invariant-loop-entry l = AreChanges (messages_of l.tape.entries) (messages_of (take l.entry-index l.entries)) l.changes.items
