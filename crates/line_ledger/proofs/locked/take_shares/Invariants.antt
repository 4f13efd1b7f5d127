use Rattle.std.proofs.Common.{◌≡◌, ◌+◌, length}
use Rattle.std.specs.Vec.Iter.{into_iter_items, into_iter_len}
use Rattle.line_ledger.specs.Ends.{told_in_all}
use Rattle.line_ledger.proofs.locked.take_shares.Given as goal

-- the parts and the amount of the seats that are left, and those that were taken
abbrev pub invariant-loop-seat : goal.invariant-loop-seat
invariant-loop-seat g l =
    (l.rest.parts + into_iter_len l.left ≡ l.fn.rest.parts + length l.fn.seats.items) × (into_iter_len l.left ≡ length (into_iter_items l.left)) ×
    (l.rest.amount + told_in_all (into_iter_items l.left) ≡ l.fn.rest.amount + told_in_all l.fn.seats.items)

abbrev pub decreases-loop-seat : goal.decreases-loop-seat
decreases-loop-seat g l = into_iter_len l.left
