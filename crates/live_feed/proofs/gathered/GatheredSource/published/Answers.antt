use Rattle.std.proofs.Common.{◌∙◌, ap, length, sym}
use Rattle.live_feed.proofs.Following.{last_follows}
use Rattle.line_ledger.specs.Cells.{shown}
use Rattle.live_feed.proofs.gathered.GatheredSource.published.Goals as goal

pub returns-in-Some-clause-count : goal.returns-in-Some-clause-count
returns-in-Some-clause-count g c =
    c.value.ensures.value
    ∙ last_follows (shown c.self.inside.published.now.tokens) c.self.inside.next.now c.in-Some.last.now c.self.invariant.numbered (sym c.in-Some.ensures.value)
    ∙ ap length c.self.view_is
