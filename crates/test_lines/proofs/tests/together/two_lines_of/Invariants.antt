use Rattle.line_ledger.specs.Days.{terms_of}
use Rattle.test_lines.proofs.tests.together.two_lines_of.Given as goal

abbrev pub ghosts-two_lines-D-Ledger : goal.ghosts-two_lines-D-Ledger
ghosts-two_lines-D-Ledger g a = record { name = a.prepared.blank.name; parts = a.prepared.blank.parts }

abbrev pub ghosts-two_lines-D-DayName : goal.ghosts-two_lines-D-DayName
ghosts-two_lines-D-DayName g a = record { terms = terms_of a.prepared.tape }
