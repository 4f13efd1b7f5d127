use Rattle.line_ledger.specs.Days.{terms_of}
use Rattle.test_lines.proofs.tests.ends.end_of.Given as goal

abbrev pub ghosts-figures-D-Ledger : goal.ghosts-figures-D-Ledger
ghosts-figures-D-Ledger g a = record { name = a.prepared.blank.name; parts = a.prepared.blank.parts }

abbrev pub ghosts-figures-D-DayName : goal.ghosts-figures-D-DayName
ghosts-figures-D-DayName g a = record { terms = terms_of a.prepared.tape }
