use Rattle.std.proofs.Common.{arith}
use Rattle.line_ledger.specs.Cells.{shown}
use Rattle.live_feed.proofs.Growing.{appended, grows_none, stays_empty}
use Rattle.live_feed.proofs.publishing.keep_next.Goals as goal

-- some were kept before
pub returns-then-waiting-gt0-clause-journal : goal.returns-then-waiting-gt0-clause-journal
returns-then-waiting-gt0-clause-journal g c = (c.requires.kept, grows_none _ _ c.requires.kept)

-- there is nothing to be kept
pub returns-then-waiting-eq0-clause-journal : goal.returns-then-waiting-eq0-clause-journal
returns-then-waiting-eq0-clause-journal g c =
    stays_empty c.args.keeper.now c.gather.new.self (shown c.args.published.now.tokens) _ c.requires.kept c.in_ok-gather.ensures.ok
    (omega (arith, c.waiting.ensures, c.if-waiting-gt0.false)) (omega (arith, c.waiting-2.ensures, c.if-waiting-eq0.true))

-- what was gathered is kept
pub returns-clause-journal : goal.returns-clause-journal
returns-clause-journal g c =
    appended c.append.result c.args.keeper.now c.gather.new.self c.append.new.self (shown c.args.published.now.tokens) _ c.requires.kept
    c.in_ok-gather.ensures.ok (omega (arith, c.waiting.ensures, c.if-waiting-gt0.false)) c.append.ensures.same c.append.ensures.group
    c.append.ensures.written c.append.ensures.writer c.append.ensures.kept
