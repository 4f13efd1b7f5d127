use Rattle.std.proofs.Common.{◌≡◌, ◌≤◌, ◌+◌, length}
use Rattle.std.specs.Vec.{vec_capacity}
use Rattle.line_ledger.specs.Cells.{NextSeen}
use Rattle.line_ledger.proofs.locked.Locked.set_next.Given as goal

-- as many more cells were set and are counted
abbrev pub invariant-loop-done : goal.invariant-loop-done
invariant-loop-done g l = (l.self ≡ record l.fn.self { set = l.fn.self.set + l.done }) × (length l.seen.items ≡ l.done) × (l.many ≤ vec_capacity l.seen)
    × NextSeen l.fn.row l.fn.self.tape.entries l.fn.self.set l.seen.items
