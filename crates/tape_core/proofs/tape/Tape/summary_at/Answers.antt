use Rattle.std.proofs.Common.{ap, sym, ◌∙◌, List, Some, slice_get, refl, length}
use Rattle.std.specs.Option.{option_map}
use Rattle.std.proofs.lemmas.Option.{slice_get_read}
use Rattle.symbol_book.specs.BookState.{BookState}
use Rattle.symbol_book.specs.Columns.{consolidated_summary}
use Rattle.tape_core.specs.Tape.{messages_of, summary_at_index}
use Rattle.tape_core.proofs.SymbolBooks.{summaries-at_index}
use Rattle.tape_core.proofs.tape.Tape.summary_at.Goals as goal

pub returns : goal.returns
returns g c = record {
  summary =
      let index = c.args.index in
      let lent = c.deref.result.now in
      let there = sym (slice_get_read lent (length lent) index c.in_ok-book.book.now refl c.in_ok-book.ensures.lookup.3.0 c.in_ok-book.ensures.lookup.1) in
      ap Some c.consolidated.ensures.summary
      ∙ ap (option_map (λ (book : BookState). consolidated_summary book.trades)) there
      ∙ ap (λ (kept : List BookState). option_map (λ (book : BookState). consolidated_summary book.trades) (slice_get kept index)) c.deref.ensures.value
      ∙ summaries-at_index c.self.inside.matrix (messages_of c.self.inside.entries.items) c.self.inside.listing.symbols c.self.inside.books.items index c.self.invariant.books
      ∙ ap (λ t. summary_at_index t index) c.self.view_is;
}
