use Rattle.std.proofs.Common.{ap, ◌∙◌}
use Rattle.symbol_book.specs.Columns.{consolidated_summary}
use Rattle.symbol_book.specs.Lemmas.Entries.{consolidated-is}
use Rattle.symbol_book.specs.BookState.{BookState}
use Rattle.symbol_book.proofs.book.Book.consolidated.Goals as goal

pub returns : goal.returns
returns g c = record {
  summary =
      c.summary.ensures.summary ∙ consolidated-is _ _ _ c.self.invariant.trades ∙ ap (λ (b : BookState). consolidated_summary b.trades) c.self.view_is;
}
