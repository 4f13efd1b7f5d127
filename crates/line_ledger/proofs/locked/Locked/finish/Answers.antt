use Rattle.std.proofs.Common.{◌≡◌, List, length, subst, ap, arith}
use Rattle.tape_core.specs.declared.entry.Entry.{Entry}
use Rattle.line_ledger.specs.Cells.{FirstSeen}
use Rattle.line_ledger.proofs.locked.Locked.finish.Goals as goal

-- the closed tape has the entries that the cells were compared with
pub invariant_of-result : goal.invariant_of-result
invariant_of-result g c =
    let seen = c.first_seen-seen in
    let same : length c.entries.result.now ≡ length c.close.new.self.entries = ap length c.entries.ensures.entries in (
      subst (λ (es : List Entry). FirstSeen c.args.row es seen.result.items) c.entries.ensures.entries seen.ensures.seen,
      omega (arith, same, seen.ensures.within),
      omega (arith, same, seen.ensures.within, c.entries.ensures.within, c.entries.ensures.limit.1),
    )
