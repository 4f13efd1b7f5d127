use Rattle.line_ledger.proofs.Pushes.{goes_on_more, shown_goes_on}
use Rattle.line_ledger.proofs.published.PublishedSource.refresh.Goals as goal

-- what was found goes on up to the cell that shows no entry
pub returns-in-Ok-false-clause-ok : goal.returns-in-Ok-false-clause-ok
returns-in-Ok-false-clause-ok g c =
    let first = c.args.self.now.tokens in
    let last = c.look_on.new.self.tokens in
    shown_goes_on first last (goes_on_more first c.loop.self.tokens last c.loop.invariant.2 c.in-Ok-false.ensures.ok)
