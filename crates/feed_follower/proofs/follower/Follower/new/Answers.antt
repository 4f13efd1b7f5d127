use Rattle.feed_follower.proofs.Rows.{all_none, all_of_nothing, part_all}
use Rattle.feed_follower.proofs.follower.Follower.new.Goals as goal

-- a sink has nothing of a subscriber that holds nothing
pub invariant_of-result-clause-given : goal.invariant_of-result-clause-given
invariant_of-result-clause-given g c none =
    all_of_nothing g.S.EntrySink.text c.args.subscriber.tape g.N.HeldName.before (g.S.EntrySink.contents c.args.sink) c.requires.nothing
    (all_none g.N.HeldName.before (g.S.EntrySink.contents c.args.sink) c.requires.before)

pub invariant_of-result-clause-part : goal.invariant_of-result-clause-part
invariant_of-result-clause-part g c =
    part_all g.S.EntrySink.text c.args.subscriber.tape g.N.HeldName.before (g.S.EntrySink.contents c.args.sink)
    (all_of_nothing g.S.EntrySink.text c.args.subscriber.tape g.N.HeldName.before (g.S.EntrySink.contents c.args.sink) c.requires.nothing
    (all_none g.N.HeldName.before (g.S.EntrySink.contents c.args.sink) c.requires.before))

-- a run that has just begun is not over
pub invariant_of-result-clause-whole : goal.invariant_of-result-clause-whole
invariant_of-result-clause-whole g c = tt
