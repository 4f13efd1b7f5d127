use Rattle.line_ledger.specs.Days.{terms_of}
use Rattle.test_lines.proofs.tests.seeds.lines_of_prepared.Given as goal

abbrev pub ghosts-lines_of_a_day-D-Ledger : goal.ghosts-lines_of_a_day-D-Ledger
ghosts-lines_of_a_day-D-Ledger g a = record { name = a.prepared.blank.name; parts = a.prepared.blank.parts }

abbrev pub ghosts-lines_of_a_day-D-DayName : goal.ghosts-lines_of_a_day-D-DayName
ghosts-lines_of_a_day-D-DayName g a = record { terms = terms_of a.prepared.tape }
