use Rattle.std.proofs.Common.{ap, sym, ◌∙◌, ◌≡◌, ℕ, IsSomeAnd, subst}
use Rattle.std.specs.FinMap as map
use Rattle.symbol_book.specs.declared.trade.Trade.{Trade}
use Rattle.symbol_book.specs.Columns.{Trades, reported_trade, consolidated_effect_of, own_effect_of, trades_with_content}
use Rattle.symbol_book.specs.Stores.{book_trades, participant_effects, OwnBecomes}
use Rattle.symbol_book.specs.Lemmas.HeldTrades.{Book-replace, Book-same, effect_of_theirs, trades_with_content-is, either, on_ok_both, on_err_both}
use Rattle.symbol_book.specs.BookState.{BookState}
use Rattle.symbol_book.proofs.book.Book.correct.Goals as goal

pub invariant_of-self : goal.invariant_of-self
invariant_of-self g c =
    let effects_in = g.S.Store.effects in
    let change_in = g.S.Store.staged_change in
    let all = c.self.inside.consolidated in
    let old = c.self.inside.own.items in
    let t : Trade = reported_trade c.self.inside.matrix c.args.who c.args.content.now in
    let at = effect_of_theirs _ (effects_in all) (participant_effects effects_in old) c.args.place c.args.who c.self.invariant.trades
    (subst (λ (m : Trades). IsSomeAnd (map.get m c.args.place) (λ t. t.who ≡ c.args.who)) (sym (ap (λ (b : BookState). b.trades) c.self.view_is)) c.requires.theirs) in
    either c.replace.result c.replace.ensures.ok c.replace.ensures.own_ok c.replace.ensures.err c.replace.ensures.own_err
    (λ a b. (Book-replace effects_in change_in all c.replace.new.consolidated old c.replace.new.own.items c.args.place at.0 t at.1 at.2
    (a ∙ ap (λ (x : Trade). map.insert (effects_in all) c.args.place (consolidated_effect_of x)) c.new-trade.ensures)
    c.replace.ensures.settled
    (subst (λ (w : ℕ). OwnBecomes effects_in change_in old c.replace.new.own.items w
    (map.insert (participant_effects effects_in old w) c.args.place (own_effect_of t))) at.2
    (subst (λ (x : Trade). OwnBecomes effects_in change_in old c.replace.new.own.items c.args.who
    (map.insert (participant_effects effects_in old c.args.who) c.args.place (own_effect_of x))) c.new-trade.ensures b)) c.self.invariant).0)
    (λ a b. (Book-same effects_in change_in all c.replace.new.consolidated old c.replace.new.own.items c.args.who a
    c.replace.ensures.settled b c.self.invariant).0)

pub returns-clause-ok : goal.returns-clause-ok
returns-clause-ok g c =
    let effects_in = g.S.Store.effects in
    let change_in = g.S.Store.staged_change in
    let all = c.self.inside.consolidated in
    let old = c.self.inside.own.items in
    let t : Trade = reported_trade c.self.inside.matrix c.args.who c.args.content.now in
    let at = effect_of_theirs _ (effects_in all) (participant_effects effects_in old) c.args.place c.args.who c.self.invariant.trades
    (subst (λ (m : Trades). IsSomeAnd (map.get m c.args.place) (λ t. t.who ≡ c.args.who)) (sym (ap (λ (b : BookState). b.trades) c.self.view_is)) c.requires.theirs) in
    on_ok_both c.replace.result
    (λ a b. let changed = (Book-replace effects_in change_in all c.replace.new.consolidated old c.replace.new.own.items c.args.place at.0 t at.1 at.2
    (a ∙ ap (λ (x : Trade). map.insert (effects_in all) c.args.place (consolidated_effect_of x)) c.new-trade.ensures)
    c.replace.ensures.settled
    (subst (λ (w : ℕ). OwnBecomes effects_in change_in old c.replace.new.own.items w
    (map.insert (participant_effects effects_in old w) c.args.place (own_effect_of t))) at.2
    (subst (λ (x : Trade). OwnBecomes effects_in change_in old c.replace.new.own.items c.args.who
    (map.insert (participant_effects effects_in old c.args.who) c.args.place (own_effect_of x))) c.new-trade.ensures b)) c.self.invariant).1
    ∙ ap (λ (w : ℕ). map.insert (book_trades effects_in all old) c.args.place (reported_trade c.self.inside.matrix w c.args.content.now)) at.2
    ∙ sym (trades_with_content-is effects_in change_in c.self.inside.matrix all old c.args.place at.0 c.args.content.now at.1 c.self.invariant) in
    (λ i. record { matrix = c.self.inside.matrix; trades = changed i })
    ∙ ap (λ (b : BookState). record b { trades = trades_with_content b.matrix b.trades c.args.place c.args.content.now }) c.self.view_is)
    c.replace.ensures.ok
    c.replace.ensures.own_ok

pub returns-clause-err : goal.returns-clause-err
returns-clause-err g c =
    on_err_both c.replace.result
    (λ a b. let same = (Book-same g.S.Store.effects g.S.Store.staged_change c.self.inside.consolidated c.replace.new.consolidated c.self.inside.own.items
    c.replace.new.own.items c.args.who a c.replace.ensures.settled b c.self.invariant).1 in
    (λ i. record { matrix = c.self.inside.matrix; trades = same i }) ∙ c.self.view_is) c.replace.ensures.err c.replace.ensures.own_err
