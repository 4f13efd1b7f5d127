use Rattle.std.proofs.Common.{◌≡◌, ◌+◌, ◌≤◌, length}
use Rattle.std.specs.Vec.{vec_capacity}
use Rattle.std.specs.Vec.Iter.{into_iter_items, into_iter_len}
use Rattle.line_ledger.specs.Cells.{NextSeen, NextTokens}
use Rattle.line_ledger.proofs.cell_row.CellRow.tokens_of.Given as goal

-- the cells that were taken have their tokens, and what was seen in the others goes on
abbrev pub invariant-loop-one : goal.invariant-loop-one
invariant-loop-one l =
    (l.at ≡ l.fn.set + length l.tokens.items) × (length l.tokens.items + into_iter_len l.left ≡ length l.fn.seen.items)
    × (into_iter_len l.left ≡ length (into_iter_items l.left)) × (length l.fn.seen.items ≤ vec_capacity l.tokens)
    × NextSeen l.fn.self l.fn.entries l.at (into_iter_items l.left) × NextTokens l.fn.self l.fn.entries l.fn.set l.tokens.items

abbrev pub decreases-loop-one : goal.decreases-loop-one
decreases-loop-one l = into_iter_len l.left
