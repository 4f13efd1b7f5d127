use Rattle.std.proofs.lemmas.Result.{err_from_is_err_and}
use Rattle.day_journal.specs.Journals.{groups_at}
use Rattle.journal_days.proofs.GroupLemmas.{ended, stopped, taken}
use Rattle.journal_days.proofs.reading.replay_groups.Goals as goal

pub returns-in-Some-clause-end : goal.returns-in-Some-clause-end
returns-in-Some-clause-end c =
    (ended c.args.tape.now c.loop-turn.tape c.args.turns c.loop-turn.turn (groups_at c.args.turns c.args.groups.now) c.loop-turn.groups
    c.loop-turn-test.true c.loop-turn.invariant c.in-Some.end c.replay_next.new.groups c.replay_next.new.tape
    (rw c.in-Some.is at c.in_ok-end.ensures.next)).0

pub returns-in-Some-clause-tape : goal.returns-in-Some-clause-tape
returns-in-Some-clause-tape c =
    (ended c.args.tape.now c.loop-turn.tape c.args.turns c.loop-turn.turn (groups_at c.args.turns c.args.groups.now) c.loop-turn.groups
    c.loop-turn-test.true c.loop-turn.invariant c.in-Some.end c.replay_next.new.groups c.replay_next.new.tape
    (rw c.in-Some.is at c.in_ok-end.ensures.next)).1

pub returns-in_err-end-clause-stops : goal.returns-in_err-end-clause-stops
returns-in_err-end-clause-stops c =
    let p = err_from_is_err_and c.from_residual.result c.from_residual.ensures.1 in
    rw (p.1, p.2) (stopped c.args.tape.now c.loop-turn.tape c.args.turns c.loop-turn.turn (groups_at c.args.turns c.args.groups.now) c.loop-turn.groups
    c.loop-turn-test.true c.loop-turn.invariant c.in_err-end.field-0.0 c.in_err-end.ensures.stops)

pub loop-turn-preserved : goal.loop-turn-preserved
loop-turn-preserved c =
    taken c.args.tape.now c.loop-turn.tape c.args.turns c.loop-turn.turn (groups_at c.args.turns c.args.groups.now) c.loop-turn.groups
    c.loop-turn-test.true c.loop-turn.invariant c.replay_next.new.groups c.replay_next.new.tape
    (rw c.in_default.is at c.in_ok-end.ensures.next)
