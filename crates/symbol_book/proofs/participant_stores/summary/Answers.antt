use Rattle.std.proofs.Common.{◌<◌, ◌≤◌, length, ap, sym, ◌∙◌, rules}
use Rattle.summaries.specs.Effects.{map_summary}
use Rattle.symbol_book.specs.Lemmas.ParticipantStores.{participant_effects-past, participant_effects-read}
use Rattle.symbol_book.specs.Lemmas.Entries.{summary-none}
use Rattle.symbol_book.proofs.participant_stores.summary.Goals as goal

pub returns-in-Some : goal.returns-in-Some
returns-in-Some g c =
    let inside : c.row_index.result < length c.args.own.now = c.in-Some.ensures.lookup.3.0 in
    c.summary.ensures.summary
    ∙ ap map_summary (sym
    (participant_effects-read g.S.Store.effects c.args.own.now c.row_index.result c.args.who c.in-Some.store.now c.row_index.ensures.letter inside
    c.in-Some.ensures.lookup.1))

pub returns-in-None : goal.returns-in-None
returns-in-None g c =
    let past : length c.args.own.now ≤ c.row_index.result = search rules in
    c.empty.ensures.empty ∙ sym
    (ap map_summary (participant_effects-past g.S.Store.effects c.args.own.now c.row_index.result c.args.who c.row_index.ensures.letter past)
    ∙ summary-none)
