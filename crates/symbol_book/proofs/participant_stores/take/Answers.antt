use Rattle.std.proofs.Common.{◌≡◌, ◌<◌, length, ap, sym, ◌∙◌, subst, IsSome, rules}
use Rattle.std.specs.FinMap as map
use Rattle.summaries.specs.Effects.{Effects}
use Rattle.symbol_book.specs.Stores.{participant_effects}
use Rattle.symbol_book.specs.Lemmas.ParticipantStores.{OwnBecomes-set, index-there, participant_effects-read}
use Rattle.symbol_book.proofs.participant_stores.take.Goals as goal

pub index_mut-requires : goal.index_mut-requires
index_mut-requires g c =
    let inside : c.row_index.result < length c.args.own.now.items =
    index-there g.S.Store.effects c.args.own.now.items c.row_index.result c.args.who c.args.place c.row_index.ensures.letter c.requires.present in
    search rules

pub take-requires-clause-settled : goal.take-requires-clause-settled
take-requires-clause-settled g c =
    let inside : c.row_index.result < length c.args.own.now.items =
    index-there g.S.Store.effects c.args.own.now.items c.row_index.result c.args.who c.args.place c.row_index.ensures.letter c.requires.present in
    ap g.S.Store.staged_change c.index_mut.ensures.value ∙ c.requires.settled c.row_index.result c.index_mut.result.now inside

pub take-requires-clause-present : goal.take-requires-clause-present
take-requires-clause-present g c =
    let inside : c.row_index.result < length c.args.own.now.items =
    index-there g.S.Store.effects c.args.own.now.items c.row_index.result c.args.who c.args.place c.row_index.ensures.letter c.requires.present in
    let held : participant_effects g.S.Store.effects c.args.own.now.items c.args.who ≡ g.S.Store.effects c.index_mut.result.now =
    participant_effects-read g.S.Store.effects c.args.own.now.items c.row_index.result c.args.who c.index_mut.result.now c.row_index.ensures.letter inside
    c.index_mut.ensures.value in
    subst (λ (e : Effects). IsSome (map.get e c.args.place)) held c.requires.present

pub returns : goal.returns
returns g c =
    let inside : c.row_index.result < length c.args.own.now.items =
    index-there g.S.Store.effects c.args.own.now.items c.row_index.result c.args.who c.args.place c.row_index.ensures.letter c.requires.present in
    let held : participant_effects g.S.Store.effects c.args.own.now.items c.args.who ≡ g.S.Store.effects c.index_mut.result.now =
    participant_effects-read g.S.Store.effects c.args.own.now.items c.row_index.result c.args.who c.index_mut.result.now c.row_index.ensures.letter inside
    c.index_mut.ensures.value in
    OwnBecomes-set g.S.Store.effects g.S.Store.staged_change c.args.own.now.items c.row_index.result c.args.who c.take.new.self _ c.row_index.ensures.letter
    inside c.requires.settled c.take.ensures.settled
    (c.take.ensures.effects ∙ ap (λ (e : Effects). map.remove e c.args.place) (sym held))
