use Rattle.line_ledger.specs.Days.{terms_of}
use Rattle.test_lines.proofs.tests.refused.publications.publish_in_a_day.Given as goal

abbrev pub ghosts-publish_in-D-Ledger : goal.ghosts-publish_in-D-Ledger
ghosts-publish_in-D-Ledger g a = record { name = a.prepared.blank.name; parts = a.prepared.blank.parts }

abbrev pub ghosts-publish_in-D-DayName : goal.ghosts-publish_in-D-DayName
ghosts-publish_in-D-DayName g a = record { terms = terms_of a.prepared.tape }
