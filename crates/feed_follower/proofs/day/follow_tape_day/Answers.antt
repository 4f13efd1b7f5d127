use Rattle.feed_follower.proofs.Reports.{tape_given}
use Rattle.feed_follower.proofs.day.follow_tape_day.Goals as goal

pub returns-clause-given : goal.returns-clause-given
returns-clause-given g c =
    tape_given g.S.EntrySink.text _ _ _ _ _ _ _ _ c.named_end-ended.ensures.well c.follow-followed.ensures.tape c.follow-followed.ensures.some
    c.follow-followed.ensures.given
