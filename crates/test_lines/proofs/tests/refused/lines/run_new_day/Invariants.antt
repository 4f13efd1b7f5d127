use Rattle.line_ledger.specs.Days.{terms_of}
use Rattle.test_lines.proofs.tests.refused.lines.run_new_day.Given as goal

abbrev pub ghosts-run_day-D-Ledger : goal.ghosts-run_day-D-Ledger
ghosts-run_day-D-Ledger g a = record { name = a.prepared.blank.name; parts = a.prepared.blank.parts }

abbrev pub ghosts-run_day-D-DayName : goal.ghosts-run_day-D-DayName
ghosts-run_day-D-DayName g a = record { terms = terms_of a.prepared.tape }
