use Rattle.std.proofs.Common.{◌≡◌, take}
use Rattle.journal_start.specs.PastLines.{with_entries}
use Rattle.journal_start.proofs.past_line.PastLine.with_entries.Given as goal

-- the line after the entries so far
abbrev pub invariant-loop-entry : goal.invariant-loop-entry
invariant-loop-entry l = l.line ≡ with_entries l.fn.self (take l.entry-index l.entries)
