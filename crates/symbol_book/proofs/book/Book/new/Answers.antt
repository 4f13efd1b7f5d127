use Rattle.std.specs.FinMap as map
use Rattle.symbol_book.specs.Lemmas.HeldTrades.{trades-unique, IsBook-holds, HoldTrades-empty, AllSettled-empty}
use Rattle.symbol_book.proofs.book.Book.new.Goals as goal

pub invariant_of-result : goal.invariant_of-result
invariant_of-result g c =
    IsBook-holds g.S.Store.effects g.S.Store.staged_change map.empty c.empty.result c.new.result.items
    (HoldTrades-empty g.S.Store.effects g.S.Store.staged_change c.empty.result c.new.result.items c.empty.ensures.effects c.new.ensures.items)
    c.empty.ensures.settled (AllSettled-empty g.S.Store.effects g.S.Store.staged_change c.new.result.items c.new.ensures.items)

pub returns : goal.returns
returns g c = record {
  empty =
      let none = trades-unique map.empty _ _
      (HoldTrades-empty g.S.Store.effects g.S.Store.staged_change c.empty.result c.new.result.items c.empty.ensures.effects c.new.ensures.items) in
      λ i. record { matrix = c.args.matrix; trades = none i };
}
