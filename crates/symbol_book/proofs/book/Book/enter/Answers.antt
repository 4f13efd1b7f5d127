use Rattle.std.proofs.Common.{ap, sym, ◌∙◌, subst, IsSome, refl}
use Rattle.std.specs.FinMap as map
use Rattle.symbol_book.specs.declared.trade.Trade.{Trade}
use Rattle.symbol_book.specs.Columns.{reported_trade, consolidated_effect_of, own_effect_of}
use Rattle.symbol_book.specs.Stores.{participant_effects, OwnBecomes}
use Rattle.symbol_book.specs.Lemmas.ParticipantStores.{OwnBecomes-here}
use Rattle.symbol_book.specs.Lemmas.HeldTrades.{Book-same, Book-add, Book-undone, get-inserted, on_err_any}
use Rattle.symbol_book.specs.BookState.{BookState}
use Rattle.symbol_book.proofs.book.Book.enter.Goals as goal

pub invariant_of-self : goal.invariant_of-self
invariant_of-self g c =
    (Book-same g.S.Store.effects g.S.Store.staged_change c.self.inside.consolidated c.self.inside.consolidated c.self.inside.own.items c.put.new.own.items
    c.args.who refl c.self.invariant.settled c.in_err-put.ensures.err c.self.invariant).0

pub returns-in_err-put-clause-err : goal.returns-in_err-put-clause-err
returns-in_err-put-clause-err g c =
    let same = (Book-same g.S.Store.effects g.S.Store.staged_change c.self.inside.consolidated c.self.inside.consolidated c.self.inside.own.items
    c.put.new.own.items c.args.who refl c.self.invariant.settled c.in_err-put.ensures.err c.self.invariant).1 in
    on_err_any c.from_residual.result ((λ i. record { matrix = c.self.inside.matrix; trades = same i }) ∙ c.self.view_is)

pub invariant_of-self-in-Ok : goal.invariant_of-self-in-Ok
invariant_of-self-in-Ok g c =
    let t : Trade = reported_trade c.self.inside.matrix c.args.who c.args.content.now in
    let vacant = ap (λ (b : BookState). map.get b.trades c.args.place) c.self.view_is ∙ c.requires.vacant in
    let is = c.in-Ok.ensures.ok
    ∙ ap (λ e. map.insert (g.S.Store.effects c.self.inside.consolidated) c.args.place e) (c.consolidated.ensures
    ∙ ap consolidated_effect_of c.new-added.ensures) in
    let becomes = subst (λ e. OwnBecomes g.S.Store.effects g.S.Store.staged_change c.self.inside.own.items c.put.new.own.items c.args.who
    (map.insert (participant_effects g.S.Store.effects c.self.inside.own.items c.args.who) c.args.place e))
    (c.own.ensures ∙ ap own_effect_of c.new-added.ensures) c.in_ok-put.ensures.ok in
    (Book-add g.S.Store.effects g.S.Store.staged_change c.self.inside.consolidated c.put-2.new.self c.self.inside.own.items c.put.new.own.items c.args.place t
    vacant is c.put-2.ensures.settled becomes c.self.invariant).0

pub take-requires-clause-present : goal.take-requires-clause-present
take-requires-clause-present g c =
    subst (λ o. IsSome o)
    (sym (ap (λ m. map.get m c.args.place)
    (OwnBecomes-here g.S.Store.effects g.S.Store.staged_change c.self.inside.own.items c.put.new.own.items c.args.who _ c.in_ok-put.ensures.ok)
    ∙ get-inserted (participant_effects g.S.Store.effects c.self.inside.own.items c.args.who) c.args.place c.own.result)) refl

pub invariant_of-self-in-Err : goal.invariant_of-self-in-Err
invariant_of-self-in-Err g c =
    (Book-undone g.S.Store.effects g.S.Store.staged_change c.self.inside.consolidated c.put-2.new.self c.self.inside.own.items c.put.new.own.items
    c.take.new.own.items c.args.who c.args.place c.own.result
    (ap (λ (b : BookState). map.get b.trades c.args.place) c.self.view_is
    ∙ c.requires.vacant) c.in-Err.ensures.err c.put-2.ensures.settled c.in_ok-put.ensures.ok c.take.ensures c.self.invariant).0

pub returns-in-Ok-clause-ok : goal.returns-in-Ok-clause-ok
returns-in-Ok-clause-ok g c =
    let t : Trade = reported_trade c.self.inside.matrix c.args.who c.args.content.now in
    let vacant = ap (λ (b : BookState). map.get b.trades c.args.place) c.self.view_is ∙ c.requires.vacant in
    let is = c.in-Ok.ensures.ok
    ∙ ap (λ e. map.insert (g.S.Store.effects c.self.inside.consolidated) c.args.place e) (c.consolidated.ensures
    ∙ ap consolidated_effect_of c.new-added.ensures) in
    let becomes = subst (λ e. OwnBecomes g.S.Store.effects g.S.Store.staged_change c.self.inside.own.items c.put.new.own.items c.args.who
    (map.insert (participant_effects g.S.Store.effects c.self.inside.own.items c.args.who) c.args.place e))
    (c.own.ensures ∙ ap own_effect_of c.new-added.ensures) c.in_ok-put.ensures.ok in
    let added = (Book-add g.S.Store.effects g.S.Store.staged_change c.self.inside.consolidated c.put-2.new.self c.self.inside.own.items c.put.new.own.items c.args.place t
    vacant is c.put-2.ensures.settled becomes c.self.invariant).1 in
    (λ i. record { matrix = c.self.inside.matrix; trades = added i })
    ∙ ap (λ (b : BookState). record b {
      trades = map.insert b.trades c.args.place
          (reported_trade b.matrix c.args.who c.args.content.now);
    }) c.self.view_is

pub returns-in-Err-clause-err : goal.returns-in-Err-clause-err
returns-in-Err-clause-err g c =
    let same = (Book-undone g.S.Store.effects g.S.Store.staged_change c.self.inside.consolidated c.put-2.new.self c.self.inside.own.items c.put.new.own.items
    c.take.new.own.items c.args.who c.args.place c.own.result
    (ap (λ (b : BookState). map.get b.trades c.args.place) c.self.view_is
    ∙ c.requires.vacant) c.in-Err.ensures.err c.put-2.ensures.settled c.in_ok-put.ensures.ok c.take.ensures c.self.invariant).1 in
    (λ i. record { matrix = c.self.inside.matrix; trades = same i }) ∙ c.self.view_is
