use Rattle.std.proofs.Common.{◌≡◌, [], subst}
use Rattle.std.specs.Prelude.{MatchOption}
use Rattle.place_index.specs.Blocks.{StartsAt}
use Rattle.place_index.proofs.BlockMaps.{entries-rise, slice-is, starts-first}
use Rattle.place_index.proofs.BlockOrder.{none-in}
use Rattle.place_index.proofs.Ends.{match-weaker}
use Rattle.place_index.proofs.block.Block.first.Goals as goal

pub returns-clause-listed : goal.returns-clause-listed
returns-clause-listed g c =
    let is = slice-is c.self.inside.entries.values c.args.self.now c.self.view_is c.entries.result.now c.entries.ensures.entries in
    subst (λ es. MatchOption c.first_place.result (es ≡ []) (StartsAt es)) is c.first_place.ensures

pub returns-clause-first : goal.returns-clause-first
returns-clause-first g c =
    let es = c.args.self.now in
    let is = slice-is c.self.inside.entries.values es c.self.view_is c.entries.result.now c.entries.ensures.entries in
    let rise = entries-rise c.self.inside.entries.values es c.self.view_is in
    match-weaker _ _ _ _ c.first_place.result (λ none. λ q. none-in es q none)
    (λ place at. starts-first es place rise at)
    (subst (λ l. MatchOption c.first_place.result (l ≡ []) (StartsAt l)) is c.first_place.ensures)
