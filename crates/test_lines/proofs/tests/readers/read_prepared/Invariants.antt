use Rattle.line_ledger.specs.Days.{terms_of}
use Rattle.test_lines.proofs.tests.readers.read_prepared.Given as goal

abbrev pub ghosts-read_day-D-Ledger : goal.ghosts-read_day-D-Ledger
ghosts-read_day-D-Ledger g a = record { name = a.prepared.blank.name; parts = a.prepared.blank.parts }

abbrev pub ghosts-read_day-D-DayName : goal.ghosts-read_day-D-DayName
ghosts-read_day-D-DayName g a = record { terms = terms_of a.prepared.tape }
