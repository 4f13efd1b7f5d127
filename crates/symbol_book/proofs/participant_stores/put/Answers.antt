use Rattle.std.proofs.Common.{◌≡◌, ◌<◌, ℕ, length, set, ap, sym, ◌∙◌, subst, None, rules}
use Rattle.std.specs.FinMap as map
use Rattle.std.proofs.lemmas.Result.{on_ok_weaker, on_err_weaker}
use Rattle.summaries.specs.Effects.{Effects}
use Rattle.symbol_book.specs.Stores.{participant_effects, AllSettled, OwnBecomes}
use Rattle.symbol_book.specs.Lemmas.ParticipantStores.{OwnBecomes-set, OwnBecomes-from, participant_effects-read}
use Rattle.symbol_book.proofs.participant_stores.put.Given.{Over}
use Rattle.symbol_book.proofs.participant_stores.put.Goals as goal
use Rattle.symbol_book.proofs.participant_stores.put.Goals.{After-index_mut, then-len-index+in_ok-make_room, else-len-index}

-- the lengthened row holds the same
same_held : (g : Over) (c : After-index_mut g) (w : ℕ)
    → participant_effects g.S.Store.effects c.if-len-index.own.items w ≡ participant_effects g.S.Store.effects c.args.own.now.items w
same_held g c w = elim c.if-len-index.branch [
  | then-len-index+in_ok-make_room b ↦ ap (λ own. participant_effects g.S.Store.effects own.items w) b.own-is ∙ b.make_room.ensures.same w
  | else-len-index b ↦ ap (λ own. participant_effects g.S.Store.effects own.items w) b.own-is
]

-- what the store that the effect is put into holds
held_before : (g : Over) (c : After-index_mut g)
    → participant_effects g.S.Store.effects c.args.own.now.items c.args.who ≡ g.S.Store.effects c.index_mut.result.now
held_before g c =
    let inside : c.row_index-index.result < length c.if-len-index.own.items = search rules in
    sym (same_held g c c.args.who)
    ∙ participant_effects-read g.S.Store.effects c.if-len-index.own.items c.row_index-index.result c.args.who c.index_mut.result.now
    c.row_index-index.ensures.letter inside c.index_mut.ensures.value

-- the row with the store written back
written : (g : Over) (c : After-index_mut g) (store : g.row.S.Denot) (effects : Effects) → g.S.Store.staged_change store ≡ None
    → g.S.Store.effects store ≡ effects
    → OwnBecomes g.S.Store.effects g.S.Store.staged_change c.args.own.now.items (set c.if-len-index.own.items c.row_index-index.result store) c.args.who effects
written g c store effects settled is =
    let inside : c.row_index-index.result < length c.if-len-index.own.items = search rules in
    let own_settled : AllSettled g.S.Store.staged_change c.if-len-index.own.items = search rules in
    OwnBecomes-from g.S.Store.effects g.S.Store.staged_change c.args.own.now.items c.if-len-index.own.items _ c.args.who effects (same_held g c)
    (OwnBecomes-set g.S.Store.effects g.S.Store.staged_change c.if-len-index.own.items c.row_index-index.result c.args.who store effects
    c.row_index-index.ensures.letter inside own_settled settled is)

pub put-requires-clause-vacant : goal.put-requires-clause-vacant
put-requires-clause-vacant g c =
    subst (λ (e : Effects). map.get e c.args.place ≡ None) (held_before g (goal.at.put-requires-clause-vacant g c).After-index_mut) c.requires.vacant

pub returns-clause-ok : goal.returns-clause-ok
returns-clause-ok g c =
    let row = (goal.at.returns-clause-ok g c).After-index_mut in
    on_ok_weaker c.put.result
    (λ is. written g row c.put.new.self _ c.put.ensures.settled (is
    ∙ ap (λ (e : Effects). map.insert e c.args.place c.args.effect) (sym (held_before g row)))) c.put.ensures.ok

pub returns-clause-err : goal.returns-clause-err
returns-clause-err g c =
    let row = (goal.at.returns-clause-err g c).After-index_mut in
    on_err_weaker c.put.result (λ is. written g row c.put.new.self _ c.put.ensures.settled (is ∙ sym (held_before g row))) c.put.ensures.err
