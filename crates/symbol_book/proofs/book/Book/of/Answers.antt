use Rattle.std.proofs.Common.{ap, ◌∙◌}
use Rattle.summaries.specs.Effects.{map_summary}
use Rattle.symbol_book.specs.Columns.{own_summary}
use Rattle.symbol_book.specs.Stores.{participant_effects}
use Rattle.symbol_book.specs.Lemmas.Entries.{own-is}
use Rattle.symbol_book.specs.BookState.{BookState}
use Rattle.symbol_book.proofs.book.Book.of.Goals as goal

pub returns : goal.returns
returns g c = record {
  summary =
      c.summary.ensures ∙ ap (λ stores. map_summary (participant_effects g.S.Store.effects stores c.args.who)) c.deref.ensures.value
      ∙ own-is _ _ _ c.args.who c.self.invariant.trades ∙ ap (λ (b : BookState). own_summary b.trades c.args.who) c.self.view_is;
}
