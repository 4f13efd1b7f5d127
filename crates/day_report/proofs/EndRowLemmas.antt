-- A participant's figures are read at its index in those of the symbol.
use Rattle.std.proofs.Common.{◌≡◌, ℕ, ◌<◌, List, length, slice_get, slice_index_or, Some, sym, ap, ◌∙◌}
use Rattle.std.proofs.lemmas.Option.{same_Some, slice_get-get_or}
use Rattle.scratch_fold.specs.declared.summary.Summary.{Summary}
use Rattle.tape_types.specs.Ranges.{row_index}

-- both ways of reading at a participant's index read the same summary
pub own-there : (own : List Summary) (who k : ℕ) (d y : Summary) → k ≡ row_index who → k < length own → slice_get own (row_index who) ≡ Some y
    → y ≡ slice_index_or own k d
own-there own who k d y at inside there = same_Some y (slice_index_or own k d) (sym there ∙ ap (slice_get own) (sym at) ∙ slice_get-get_or own k d inside)
