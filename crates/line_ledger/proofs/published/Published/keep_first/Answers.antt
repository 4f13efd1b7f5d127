use Rattle.std.proofs.Common.{rules}
use Rattle.line_ledger.proofs.Pushes.{first_take, published_take}
use Rattle.line_ledger.proofs.published.Published.keep_first.Goals as goal

-- the front of what was found
pub invariant_of-self : goal.invariant_of-self
invariant_of-self g c =
    let found = c.self.inside.found.items in
    let kept = c.truncate.new.self.items in (
      search rules,
      first_take c.self.inside.shared.now found kept c.args.count c.self.invariant.1 c.truncate.ensures.items,
      published_take found kept c.args.count c.self.invariant.2 c.truncate.ensures.items,
    )
