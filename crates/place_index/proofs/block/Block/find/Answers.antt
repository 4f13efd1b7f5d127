use Rattle.std.proofs.Common.{ap, ◌∙◌}
use Rattle.std.specs.FinMap as map
use Rattle.place_index.proofs.BlockMaps.{seen}
use Rattle.place_index.proofs.block.Block.find.Goals as goal

pub returns : goal.returns
returns g c = c.get.ensures.value ∙ ap (λ m. map.get m c.args.place) (seen c.self.inside.entries.values c.args.self.now c.self.view_is)
