use Rattle.line_ledger.specs.Days.{terms_of}
use Rattle.test_lines.proofs.tests.lines.day_of_lines.Given as goal

abbrev pub ghosts-day_after-D-Ledger : goal.ghosts-day_after-D-Ledger
ghosts-day_after-D-Ledger g a = record { name = a.prepared.blank.name; parts = a.prepared.blank.parts }

abbrev pub ghosts-day_after-D-DayName : goal.ghosts-day_after-D-DayName
ghosts-day_after-D-DayName g a = record { terms = terms_of a.prepared.tape }
