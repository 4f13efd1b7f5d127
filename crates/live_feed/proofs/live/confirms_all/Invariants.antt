use Rattle.std.proofs.Common.{◌≡◌, ◌-◌, ◌<◌, ℕ, Some, slice_get, slice_index_or}
use Rattle.line_ledger.specs.Cells.{TokenState}
use Rattle.live_feed.proofs.live.confirms_all.Given as goal

-- the tape has the entry of each token that was asked about
abbrev pub invariant-loop-at : goal.invariant-loop-at
invariant-loop-at l = (i : ℕ) (d : TokenState) → i < l.at
    → slice_get l.day.tape.entries ((slice_index_or l.tokens.items i d).number - 1) ≡ Some (slice_index_or l.tokens.items i d).entry
