use Rattle.std.proofs.Common.{◌≡◌, ◌+◌, ◌≤◌, length, take, map}
use Rattle.std.specs.Vec.{vec_len, vec_capacity}
use Rattle.line_ledger.specs.Seats.{untold}
use Rattle.line_ledger.proofs.locked.untold_seats.Given as goal

-- the first participants have their seats, and a part of the ledger is left for each other one
abbrev pub invariant-loop-i : goal.invariant-loop-i
invariant-loop-i g l =
    (l.rest.parts + l.i ≡ length l.fn.participants) × (l.rest.amount ≡ 0) ×
    (l.seats.items ≡ map untold (take l.i l.fn.participants)) × (vec_len l.seats ≡ l.i) × (length l.fn.participants ≤ vec_capacity l.seats)
