use Rattle.std.proofs.Common.{ap, sym, ◌∙◌, List, Some, None, slice_get, refl, length, if◌then◌else◌}
use Rattle.std.specs.Option.{option_map}
use Rattle.std.proofs.lemmas.Option.{slice_get_read}
use Rattle.symbol_book.specs.BookState.{BookState}
use Rattle.symbol_book.specs.Columns.{own_summary}
use Rattle.tape_core.specs.Standing.{participant_summary}
use Rattle.tape_core.specs.Tape.{messages_of, participant_summary_at_index}
use Rattle.tape_core.proofs.SymbolBooks.{participant_summaries-at_index}
use Rattle.tape_core.proofs.tape.Tape.summary_of_at.Goals as goal

pub returns : goal.returns
returns g c = record {
  summary =
      let tape = messages_of c.self.inside.entries.items in
      let symbols = c.self.inside.listing.symbols in
      let index = c.args.index in
      let who = c.args.participant in
      let listed = sym c.if-not-has.false ∙ c.has.ensures.listed in
      let lent = c.deref.result.now in
      let there = sym (slice_get_read lent (length lent) index c.in_ok-book.book.now refl c.in_ok-book.ensures.lookup.3.0 c.in_ok-book.ensures.lookup.1) in
      ap Some c.of.ensures.summary
      ∙ ap (option_map (λ (book : BookState). own_summary book.trades who)) there
      ∙ ap (λ (kept : List BookState). option_map (λ (book : BookState). own_summary book.trades who) (slice_get kept index)) c.deref.ensures.value
      ∙ participant_summaries-at_index c.self.inside.matrix tape who symbols c.self.inside.books.items index c.self.invariant.books
      ∙ (λ i. if listed i then option_map (λ symbol. participant_summary c.self.inside.matrix tape symbol who) (slice_get symbols index) else None)
      ∙ ap (λ t. participant_summary_at_index t index who) c.self.view_is;
}
