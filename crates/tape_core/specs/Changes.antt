-- Defines what a change does to its symbol's book and to the register, under an entry's number and a message's header. The
-- index of a report in the register is only where to look first, so nothing here depends on it.
use Rattle.std.specs.Prelude.{◌≡◌, ℕ, Option, true, None, Some, IsSome, IsSomeAnd}
use Rattle.std.specs.FinMap as map
use Rattle.sale_matrix.specs.Matrix.{is_within}
use Rattle.sale_matrix.specs.declared.content.Content.{Content}
use Rattle.reports.specs.declared.message.Header.{Header}
use Rattle.corrections.specs.Targets.{Targets, IsStanding, IsCancelled, standing_target, cancelled_target, corrected_target, reinstated_target, targets_changed}
use Rattle.scratch_fold.specs.declared.summary.Summary.{Summary}
use Rattle.symbol_book.specs.BookState.{BookState}
use Rattle.symbol_book.specs.Columns.{reported_trade, consolidated_summary, trades_with_content}
use Rattle.tape_core.specs.declared.change.Change.{Change}
use Rattle.tape_core.specs.declared.change.Change.TheVariants.{Enter, Cancel, Correct, Reinstate}
use Rattle.tape_core.specs.declared.change.NamedReport.{NamedReport}

-- a change of a report that a message names by a target, if it is at this place with this content, and at this index in the
-- register
abbrev pub change_at : (NamedReport → Content → Change) → ℕ → ℕ → ℕ × Content → Change
change_at change target index report = change (record { target = target; place = report.0; index = index }) report.1

-- the book has room at the place of a report that enters or comes back, and has the one that another change names, a corrected
-- one as its participant's; the register too; and the content that the book takes is of its matrix
abbrev pub CanChange : BookState → Targets → ℕ → Header → Change → Type 0
CanChange book targets number header (Enter content) =
    (map.get book.trades number ≡ None) × (map.get targets (header.participant, header.number) ≡ None) × (is_within book.matrix content.condition ≡ true)
CanChange book targets number header (Cancel named) =
    IsSome (map.get book.trades named.place) × IsStanding (map.get targets (header.participant, named.target))
CanChange book targets number header (Correct named content) =
    IsSomeAnd (map.get book.trades named.place) (λ t. t.who ≡ header.participant)
    × IsStanding (map.get targets (header.participant, named.target))
    × (is_within book.matrix content.condition ≡ true)
CanChange book targets number header (Reinstate named content) =
    (map.get book.trades named.place ≡ None) × IsCancelled (map.get targets (header.participant, named.target)) × (is_within book.matrix content.condition ≡ true)

-- the book after it
abbrev pub book_after : BookState → ℕ → Header → Change → BookState
book_after book number header (Enter content) =
    record book { trades = map.insert book.trades number (reported_trade book.matrix header.participant content) }
book_after book number header (Cancel named) = record book { trades = map.remove book.trades named.place }
book_after book number header (Correct named content) = record book { trades = trades_with_content book.matrix book.trades named.place content }
book_after book number header (Reinstate named content) =
    record book { trades = map.insert book.trades named.place (reported_trade book.matrix header.participant content) }

-- the register's targets after it
abbrev pub targets_after : Targets → ℕ → Header → Change → Targets
targets_after targets number header (Enter content) =
    map.insert targets (header.participant, header.number) (standing_target header.symbol number content)
targets_after targets number header (Cancel named) = targets_changed cancelled_target targets (header.participant, named.target)
targets_after targets number header (Correct named content) = targets_changed (corrected_target content) targets (header.participant, named.target)
targets_after targets number header (Reinstate named content) = targets_changed reinstated_target targets (header.participant, named.target)

-- what the entry carries, if this is the book after the change: its summary, or `None` if a report enters
abbrev pub summary_after : BookState → Change → Option Summary
summary_after book (Enter content) = None
summary_after book (Cancel named) = Some (consolidated_summary book.trades)
summary_after book (Correct named content) = Some (consolidated_summary book.trades)
summary_after book (Reinstate named content) = Some (consolidated_summary book.trades)
