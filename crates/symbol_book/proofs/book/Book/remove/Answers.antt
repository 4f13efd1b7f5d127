use Rattle.std.proofs.Common.{ap, ◌∙◌}
use Rattle.std.specs.FinMap as map
use Rattle.symbol_book.specs.Lemmas.HeldTrades.{Book-remove}
use Rattle.symbol_book.specs.BookState.{BookState}
use Rattle.symbol_book.proofs.book.Book.remove.Goals as goal

pub invariant_of-self : goal.invariant_of-self
invariant_of-self g c =
    (Book-remove g.S.Store.effects g.S.Store.staged_change c.self.inside.consolidated c.take-effect.new.self c.self.inside.own.items c.take.new.own.items
    c.args.place c.take-effect.result c.take-effect.ensures.taken
    c.take-effect.ensures.effects c.take-effect.ensures.settled c.take.ensures c.self.invariant).0

pub returns : goal.returns
returns g c = record {
  removed =
      let gone = (Book-remove g.S.Store.effects g.S.Store.staged_change c.self.inside.consolidated c.take-effect.new.self c.self.inside.own.items
      c.take.new.own.items c.args.place c.take-effect.result c.take-effect.ensures.taken
      c.take-effect.ensures.effects c.take-effect.ensures.settled c.take.ensures c.self.invariant).1 in
      (λ i. record { matrix = c.self.inside.matrix; trades = gone i })
      ∙ ap (λ (b : BookState). record b { trades = map.remove b.trades c.args.place }) c.self.view_is;
}
