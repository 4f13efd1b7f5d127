use Rattle.std.proofs.Common.{ap, sym, ◌∙◌, subst, refl}
use Rattle.std.specs.FinMap as map
use Rattle.symbol_book.specs.declared.trade.Trade.{Trade}
use Rattle.symbol_book.specs.Columns.{content_of, reported_trade, consolidated_effect_of, own_effect_of, trades_with_content}
use Rattle.symbol_book.specs.Stores.{participant_effects, OwnBecomes}
use Rattle.symbol_book.specs.Lemmas.HeldTrades.{Book-replace, Book-same, trades_with_content-is, either, on_ok_both, on_err_both}
use Rattle.symbol_book.specs.BookState.{BookState}
use Rattle.symbol_book.proofs.book.Book.replace.Goals as goal

pub invariant_of-self : goal.invariant_of-self
invariant_of-self g c =
    let effects_in = g.S.Store.effects in
    let change_in = g.S.Store.staged_change in
    let e = c.unwrap-effect.result in
    let t : Trade = reported_trade c.self.inside.matrix e.who (content_of c.args.price c.args.size c.args.condition.now) in
    let here = sym c.get.ensures.effect ∙ c.unwrap-effect.ensures in
    either c.replace.result c.replace.ensures.ok c.replace.ensures.own_ok c.replace.ensures.err c.replace.ensures.own_err
    (λ a b. (Book-replace effects_in change_in c.self.inside.consolidated c.replace.new.consolidated c.self.inside.own.items c.replace.new.own.items
    c.args.place e t here refl
    (a ∙ ap (λ (x : Trade). map.insert (effects_in c.self.inside.consolidated) c.args.place (consolidated_effect_of x)) c.new-trade.ensures)
    c.replace.ensures.settled
    (subst (λ (x : Trade). OwnBecomes effects_in change_in c.self.inside.own.items c.replace.new.own.items e.who
    (map.insert (participant_effects effects_in c.self.inside.own.items e.who) c.args.place (own_effect_of x))) c.new-trade.ensures b) c.self.invariant).0)
    (λ a b. (Book-same effects_in change_in c.self.inside.consolidated c.replace.new.consolidated c.self.inside.own.items c.replace.new.own.items e.who a
    c.replace.ensures.settled b c.self.invariant).0)

pub returns-clause-ok : goal.returns-clause-ok
returns-clause-ok g c =
    let effects_in = g.S.Store.effects in
    let change_in = g.S.Store.staged_change in
    let e = c.unwrap-effect.result in
    let t : Trade = reported_trade c.self.inside.matrix e.who (content_of c.args.price c.args.size c.args.condition.now) in
    let here = sym c.get.ensures.effect ∙ c.unwrap-effect.ensures in
    on_ok_both c.replace.result
    (λ a b. let changed = (Book-replace effects_in change_in c.self.inside.consolidated c.replace.new.consolidated c.self.inside.own.items c.replace.new.own.items
    c.args.place e t here refl
    (a ∙ ap (λ (x : Trade). map.insert (effects_in c.self.inside.consolidated) c.args.place (consolidated_effect_of x)) c.new-trade.ensures)
    c.replace.ensures.settled
    (subst (λ (x : Trade). OwnBecomes effects_in change_in c.self.inside.own.items c.replace.new.own.items e.who
    (map.insert (participant_effects effects_in c.self.inside.own.items e.who) c.args.place (own_effect_of x))) c.new-trade.ensures b) c.self.invariant).1
    ∙ sym (trades_with_content-is effects_in change_in c.self.inside.matrix c.self.inside.consolidated c.self.inside.own.items c.args.place e
    (content_of c.args.price c.args.size c.args.condition.now) here c.self.invariant) in
    (λ i. record { matrix = c.self.inside.matrix; trades = changed i })
    ∙ ap (λ (b : BookState). record b {
      trades = trades_with_content b.matrix b.trades c.args.place
          (content_of c.args.price c.args.size c.args.condition.now);
    }) c.self.view_is) c.replace.ensures.ok
    c.replace.ensures.own_ok

pub returns-clause-err : goal.returns-clause-err
returns-clause-err g c =
    on_err_both c.replace.result
    (λ a b. let same = (Book-same g.S.Store.effects g.S.Store.staged_change c.self.inside.consolidated c.replace.new.consolidated c.self.inside.own.items
    c.replace.new.own.items c.unwrap-effect.result.who a c.replace.ensures.settled b c.self.invariant).1 in
    (λ i. record { matrix = c.self.inside.matrix; trades = same i }) ∙ c.self.view_is) c.replace.ensures.err c.replace.ensures.own_err
