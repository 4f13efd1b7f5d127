use Rattle.std.proofs.Common.{◌≡◌, ◌<◌, length, ap, sym, ◌∙◌, subst, IsSome, rules}
use Rattle.std.specs.FinMap as map
use Rattle.std.proofs.lemmas.Result.{on_ok_weaker, on_err_weaker}
use Rattle.summaries.specs.Effects.{Effects}
use Rattle.symbol_book.specs.Columns.{own_effect_of}
use Rattle.symbol_book.specs.Stores.{participant_effects}
use Rattle.symbol_book.specs.Lemmas.ParticipantStores.{OwnBecomes-set, index-there, participant_effects-read}
use Rattle.symbol_book.proofs.participant_stores.replace.Goals as goal

pub index_mut-requires : goal.index_mut-requires
index_mut-requires g c =
    let inside : c.row_index.result < length c.args.own.now.items =
    index-there g.S.Store.effects c.args.own.now.items c.row_index.result c.args.who c.args.place c.row_index.ensures.letter c.requires.own_present in
    search rules

pub replace_both-requires-clause-own_settled : goal.replace_both-requires-clause-own_settled
replace_both-requires-clause-own_settled g c =
    let inside : c.row_index.result < length c.args.own.now.items =
    index-there g.S.Store.effects c.args.own.now.items c.row_index.result c.args.who c.args.place c.row_index.ensures.letter c.requires.own_present in
    ap g.S.Store.staged_change c.index_mut.ensures.value ∙ c.requires.own_settled c.row_index.result c.index_mut.result.now inside

pub replace_both-requires-clause-own_present : goal.replace_both-requires-clause-own_present
replace_both-requires-clause-own_present g c =
    let inside : c.row_index.result < length c.args.own.now.items =
    index-there g.S.Store.effects c.args.own.now.items c.row_index.result c.args.who c.args.place c.row_index.ensures.letter c.requires.own_present in
    let held : participant_effects g.S.Store.effects c.args.own.now.items c.args.who ≡ g.S.Store.effects c.index_mut.result.now =
    participant_effects-read g.S.Store.effects c.args.own.now.items c.row_index.result c.args.who c.index_mut.result.now c.row_index.ensures.letter inside
    c.index_mut.ensures.value in
    subst (λ (e : Effects). IsSome (map.get e c.args.place)) held c.requires.own_present

pub returns-clause-own_ok : goal.returns-clause-own_ok
returns-clause-own_ok g c =
    let inside : c.row_index.result < length c.args.own.now.items =
    index-there g.S.Store.effects c.args.own.now.items c.row_index.result c.args.who c.args.place c.row_index.ensures.letter c.requires.own_present in
    let held : participant_effects g.S.Store.effects c.args.own.now.items c.args.who ≡ g.S.Store.effects c.index_mut.result.now =
    participant_effects-read g.S.Store.effects c.args.own.now.items c.row_index.result c.args.who c.index_mut.result.now c.row_index.ensures.letter inside
    c.index_mut.ensures.value in
    on_ok_weaker c.replace_both.result
    (λ is. OwnBecomes-set g.S.Store.effects g.S.Store.staged_change c.args.own.now.items c.row_index.result c.args.who c.replace_both.new.own _
    c.row_index.ensures.letter inside c.requires.own_settled c.replace_both.ensures.own_settled
    (is ∙ ap (λ (e : Effects). map.insert e c.args.place (own_effect_of c.args.trade.now)) (sym held))) c.replace_both.ensures.own_ok

pub returns-clause-own_err : goal.returns-clause-own_err
returns-clause-own_err g c =
    let inside : c.row_index.result < length c.args.own.now.items =
    index-there g.S.Store.effects c.args.own.now.items c.row_index.result c.args.who c.args.place c.row_index.ensures.letter c.requires.own_present in
    let held : participant_effects g.S.Store.effects c.args.own.now.items c.args.who ≡ g.S.Store.effects c.index_mut.result.now =
    participant_effects-read g.S.Store.effects c.args.own.now.items c.row_index.result c.args.who c.index_mut.result.now c.row_index.ensures.letter inside
    c.index_mut.ensures.value in
    on_err_weaker c.replace_both.result
    (λ is. OwnBecomes-set g.S.Store.effects g.S.Store.staged_change c.args.own.now.items c.row_index.result c.args.who c.replace_both.new.own _
    c.row_index.ensures.letter inside c.requires.own_settled c.replace_both.ensures.own_settled
    (is ∙ sym held)) c.replace_both.ensures.own_err
