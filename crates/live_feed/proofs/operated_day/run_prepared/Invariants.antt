use Rattle.line_ledger.specs.Days.{terms_of}
use Rattle.live_feed.proofs.operated_day.run_prepared.Given as goal

abbrev pub ghosts-run_named-D-Ledger : goal.ghosts-run_named-D-Ledger
ghosts-run_named-D-Ledger g a = record { name = a.ready.prepared.blank.name; parts = a.ready.prepared.blank.parts }

abbrev pub ghosts-run_named-D-DayName : goal.ghosts-run_named-D-DayName
ghosts-run_named-D-DayName g a = record { terms = terms_of a.ready.prepared.tape }
