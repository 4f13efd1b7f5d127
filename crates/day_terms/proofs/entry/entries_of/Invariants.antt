use Rattle.std.proofs.Common.{◌≡◌, ◌+◌, drop, length}
use Rattle.toml.specs.View.{items_view, view}
use Rattle.day_terms.specs.Entries.{each_entry, entries_at}
use Rattle.day_terms.proofs.Fronts.{with_front}
use Rattle.day_terms.proofs.entry.entries_of.Given as goal

-- the entries so far and those of the values that are left are those of the list
abbrev pub invariant-loop-item : goal.invariant-loop-item
invariant-loop-item g l =
    with_front l.entries.items (each_entry g.E.ListEntry.entry l.fn.key (length l.entries.items + 1) (items_view (drop l.item-index l.item-items)))
    ≡ entries_at g.E.ListEntry.entry l.fn.key (view l.fn.value)
