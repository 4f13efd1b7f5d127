use Rattle.std.proofs.Common.{◌∙◌, sym}
use Rattle.live_feed.proofs.Operated.{its_report, unwritten}
use Rattle.live_feed.proofs.operated_day.run_named.Goals as goal

-- a whole report is one of the day's terms
pub returns-clause-report : goal.returns-clause-report
returns-clause-report g c = λ is. its_report g.D.DayName.terms _ _ _ (c.run_and_report-joined.ensures.report (sym c.held_of.ensures.same.0 ∙ is))

-- without one nothing was written, but for a failed write
pub returns-clause-unwritten : goal.returns-clause-unwritten
returns-clause-unwritten g c = λ is. unwritten _ _ _ c.held_of.ensures.least (c.run_and_report-joined.ensures.unwritten (sym c.held_of.ensures.same.0 ∙ is))
