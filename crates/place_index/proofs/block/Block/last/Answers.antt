use Rattle.std.proofs.Common.{◌≡◌, [], subst}
use Rattle.std.specs.Prelude.{MatchOption}
use Rattle.place_index.specs.Blocks.{EndsAt}
use Rattle.place_index.proofs.BlockMaps.{ends-last, entries-rise, slice-is}
use Rattle.place_index.proofs.BlockOrder.{none-in}
use Rattle.place_index.proofs.Ends.{match-weaker}
use Rattle.place_index.proofs.block.Block.last.Goals as goal

pub returns-clause-listed : goal.returns-clause-listed
returns-clause-listed g c =
    let is = slice-is c.self.inside.entries.values c.args.self.now c.self.view_is c.entries.result.now c.entries.ensures.entries in
    subst (λ es. MatchOption c.last_place.result (es ≡ []) (EndsAt es)) is c.last_place.ensures

pub returns-clause-last : goal.returns-clause-last
returns-clause-last g c =
    let es = c.args.self.now in
    let is = slice-is c.self.inside.entries.values es c.self.view_is c.entries.result.now c.entries.ensures.entries in
    let rise = entries-rise c.self.inside.entries.values es c.self.view_is in
    match-weaker _ _ _ _ c.last_place.result (λ none. λ q. none-in es q none)
    (λ place at. ends-last es place rise at)
    (subst (λ l. MatchOption c.last_place.result (l ≡ []) (EndsAt l)) is c.last_place.ensures)
