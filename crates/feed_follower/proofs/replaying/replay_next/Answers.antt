use Rattle.feed_follower.proofs.Kept.{kept_at_stop, news_at_stop}
use Rattle.feed_follower.proofs.Rows.{grown_at_stop, some_none}
use Rattle.feed_follower.proofs.replaying.replay_next.Goals as goal

pub returns-in-Err-clause-names : goal.returns-in-Err-clause-names
returns-in-Err-clause-names g c = kept_at_stop _ _ _ c.in-Err.ensures.err

pub returns-in-Err-clause-news : goal.returns-in-Err-clause-news
returns-in-Err-clause-news g c = news_at_stop _ _ _ c.in-Err.ensures.err

pub returns-in-Err-clause-part : goal.returns-in-Err-clause-part
returns-in-Err-clause-part g c = some_none _ _ _ _ (grown_at_stop _ _ _ c.in-Err.ensures.err)
