use Rattle.tapebox.proofs.FeedLemmas.{follow_ends, unfollowed}
use Rattle.tapebox.proofs.following.run_follow_file.Goals as goal

pub returns-in-Ok : goal.returns-in-Ok
returns-in-Ok g c =
    let old = g.W.Write.contents c.args.writer.now in
    let new = g.W.Write.contents c.follow_day.new.writer in
    let end = c.follow_day.result.0 in
    let day = c.args.day.terms.day in
    follow_ends day.listing day.matrix day.limit c.args.writer.now c.follow_day.new.writer old new c.args.is_partial end.ended end.report
    c.say_follow_end.result c.say_follow_end.ensures c.follow_day.ensures.listed c.follow_day.ensures.counted c.follow_day.ensures.unwritten
    c.follow_day.ensures.unmade c.follow_day.ensures.whole

pub returns-in-Err : goal.returns-in-Err
returns-in-Err g c =
    let old = g.W.Write.contents c.args.writer.now in
    unfollowed _ _ _ c.args.writer.now c.args.writer.now old old c.args.is_partial c.in-Err.status c.in-Err.ensures.status
