use Rattle.std.proofs.Common.{rules, ◌≡◌, ◌≤◌, ◌∙◌, ℕ, List, length, None, Option, ap, subst}
use Rattle.std.specs.Prelude.{IsSomeAnd}
use Rattle.tape_core.specs.declared.entry.Entry.{Entry}
use Rattle.subscriber.specs.Subscribers.{SubscriberState}
use Rattle.feed_follower.proofs.Rows.{all_kept, all_of_nothing, part_all}
use Rattle.feed_follower.proofs.Wholes.{going}
use Rattle.feed_follower.proofs.follower.Follower.restart.Goals as goal

-- a sink that refuses it has what it had
pub invariant_of-self : goal.invariant_of-self
invariant_of-self g c =
    let none : c.args.self.now.lacks ≡ None = search rules in
    let contents = g.S.EntrySink.contents in
    let all = all_kept _ _ (contents c.args.self.now.sink) (contents c.begin_anew.new.sink) (c.args.self.now.given none) c.begin_anew.ensures.kept in
    record {
      listed = c.args.self.now.listed;
      by_matrix = c.args.self.now.by_matrix;
      limited = c.args.self.now.limited;
      named = c.args.self.now.named;
      of_session = c.args.self.now.of_session;
      accounted = c.args.self.now.accounted;
      given = λ _. all;
      part = part_all g.S.EntrySink.text c.args.self.now.subscriber.tape g.N.HeldName.before (contents c.begin_anew.new.sink) all;
      whole = c.args.self.now.whole;
      settled = c.args.self.now.settled;
    }

-- a sink that was told of it has nothing of the new subscriber, which holds nothing
pub invariant_of-self-2-clause-given : goal.invariant_of-self-2-clause-given
invariant_of-self-2-clause-given g c none =
    all_of_nothing g.S.EntrySink.text c.replace.new.dest.tape g.N.HeldName.before (g.S.EntrySink.contents c.begin_anew.new.sink)
    (ap (λ (s : SubscriberState). s.tape.entries) c.replace.ensures.after ∙ c.in_ok-next.ensures.nothing)
    (c.in_default-begin_anew.ensures.anew g.N.HeldName.before (c.args.self.now.given none))

pub invariant_of-self-2-clause-part : goal.invariant_of-self-2-clause-part
invariant_of-self-2-clause-part g c =
    let none : c.args.self.now.lacks ≡ None = search rules in
    part_all g.S.EntrySink.text c.replace.new.dest.tape g.N.HeldName.before (g.S.EntrySink.contents c.begin_anew.new.sink)
    (invariant_of-self-2-clause-given g c none)

-- a run that goes on is not over
pub invariant_of-self-2-clause-whole : goal.invariant_of-self-2-clause-whole
invariant_of-self-2-clause-whole g c = going c.replace.new.dest _ c.requires

-- so many are held
enough : (after : Option ℕ) (seen held : List Entry) → seen ≡ held → IsSomeAnd after (λ most. most ≤ length seen) → IsSomeAnd after (λ most. most ≤ length held)
enough after seen held is = subst (λ (entries : List Entry). IsSomeAnd after (λ most. most ≤ length entries)) is

-- a subscriber that holds too little is kept
pub returns-clause-asked : goal.returns-clause-asked
returns-clause-asked g c not =
    absurd (not (enough _ _ _ c.held.ensures.entries (c.is_given_up.ensures.given_up.0 c.if-not-is_given_up.false)))
