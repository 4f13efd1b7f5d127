use Rattle.feed_follower.proofs.Reports.{day_counted, day_given}
use Rattle.feed_follower.proofs.day.follow_day.Goals as goal

pub returns-clause-given : goal.returns-clause-given
returns-clause-given g c =
    day_given g.S.EntrySink.text _ _ _ _ _ _ _ _ _ _ _ c.ended_by-ended.ensures.well c.ended_by-ended.ensures.reported c.follow-followed.ensures.tape
    c.follow-followed.ensures.some c.follow-followed.ensures.given c.report_held-report.ensures.written

pub returns-clause-counted : goal.returns-clause-counted
returns-clause-counted g c =
    day_counted _ _ _ _ _ _ _ c.follow-followed.ensures.tape c.report_held-report.ensures.held c.report_held-report.ensures.written
