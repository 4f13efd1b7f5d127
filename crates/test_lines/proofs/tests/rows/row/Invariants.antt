use Rattle.line_ledger.specs.Days.{terms_of}
use Rattle.test_lines.proofs.tests.rows.row.Given as goal

abbrev pub ghosts-played-D-Ledger : goal.ghosts-played-D-Ledger
ghosts-played-D-Ledger g a = record { name = a.prepared.blank.name; parts = a.prepared.blank.parts }

abbrev pub ghosts-played-D-DayName : goal.ghosts-played-D-DayName
ghosts-played-D-DayName g a = record { terms = terms_of a.prepared.tape }
