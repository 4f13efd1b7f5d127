use Rattle.feed_follower.specs.Followers.{KeepsNews, KeepsTerms}
use Rattle.feed_follower.specs.Sinks.{GivesMore}
use Rattle.feed_follower.proofs.replaying.replay_each.Given as goal

-- the sink was given what was replayed so far
abbrev pub invariant-loop : goal.invariant-loop
invariant-loop g l = record {
  names : KeepsTerms l.fn.subscriber.tape l.subscriber.tape;
  news : KeepsNews l.fn.subscriber l.subscriber;
  given : GivesMore g.S.EntrySink.text l.fn.subscriber.tape l.subscriber.tape (g.S.EntrySink.contents l.fn.sink) (g.S.EntrySink.contents l.sink);
}
