use Rattle.std.proofs.Common.{◌≡◌, ◌-◌, ◌<◌, ℕ, Some, slice_get, slice_index_or}
use Rattle.line_ledger.specs.Cells.{TokenState}
use Rattle.line_ledger.proofs.cell_row.CellRow.have_all_seen.Given as goal

-- the entries have what was seen in each cell that was asked about
abbrev pub invariant-loop-at : goal.invariant-loop-at
invariant-loop-at l = (i : ℕ) (d : TokenState) → i < l.at
    → slice_get l.entries ((slice_index_or l.sightings.items i d).number - 1) ≡ Some (slice_index_or l.sightings.items i d).entry
