use Rattle.std.proofs.Common.{rules}
use Rattle.line_ledger.proofs.Pushes.{seen_push}
use Rattle.line_ledger.proofs.cell_row.CellRow.first_seen.Goals as goal

-- one more cell holds its entry
pub loop-at-preserved : goal.loop-at-preserved
loop-at-preserved c = (
  search rules,
  search rules,
  seen_push c.args.self.now c.args.entries.now c.loop-at.seen.items c.push_reserved.new.self.items c.in-Some.found
      c.loop-at.at c.loop-at.invariant.2 c.loop-at.invariant.0 c.in-Some.ensures c.push_reserved.ensures.items,
)
