use Rattle.feed_follower.proofs.Kept.{kept_at_end, kept_at_stop, news_at_end, news_at_stop}
use Rattle.feed_follower.proofs.Rows.{grown_at_end, grown_at_stop}
use Rattle.feed_follower.proofs.replaying.replay_all.Goals as goal

pub returns-in-Ok-clause-names : goal.returns-in-Ok-clause-names
returns-in-Ok-clause-names c = kept_at_end _ _ _ c.in-Ok.ensures.ok

pub returns-in-Ok-clause-news : goal.returns-in-Ok-clause-news
returns-in-Ok-clause-news c = news_at_end _ _ _ c.in-Ok.ensures.ok

pub returns-in-Ok-clause-grown : goal.returns-in-Ok-clause-grown
returns-in-Ok-clause-grown c = grown_at_end _ _ _ c.in-Ok.ensures.ok

pub returns-in-Err-clause-names : goal.returns-in-Err-clause-names
returns-in-Err-clause-names c = kept_at_stop _ _ _ c.in-Err.ensures.err

pub returns-in-Err-clause-news : goal.returns-in-Err-clause-news
returns-in-Err-clause-news c = news_at_stop _ _ _ c.in-Err.ensures.err

pub returns-in-Err-clause-grown : goal.returns-in-Err-clause-grown
returns-in-Err-clause-grown c = grown_at_stop _ _ _ c.in-Err.ensures.err
