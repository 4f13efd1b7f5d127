use Rattle.tape_core.specs.Ending.{KeepsEnd}
use Rattle.journal_days.specs.Days.{unlimited_before}
use Rattle.journal_days.proofs.report.end_of.Given as goal

-- what is kept is that of the tape's entries so far
abbrev pub invariant-loop-entry : goal.invariant-loop-entry
invariant-loop-entry l = KeepsEnd (unlimited_before l.tape l.entry-index) l.end
