use Rattle.line_ledger.specs.Days.{terms_of}
use Rattle.test_lines.proofs.tests.served.served_of.Given as goal

abbrev pub ghosts-served-D-Ledger : goal.ghosts-served-D-Ledger
ghosts-served-D-Ledger g a = record { name = a.prepared.blank.name; parts = a.prepared.blank.parts }

abbrev pub ghosts-served-D-DayName : goal.ghosts-served-D-DayName
ghosts-served-D-DayName g a = record { terms = terms_of a.prepared.tape }
