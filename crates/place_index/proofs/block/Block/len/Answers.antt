use Rattle.std.proofs.Common.{ap, length, ◌∙◌}
use Rattle.std.specs.FinMap as map
use Rattle.place_index.proofs.block.Block.len.Goals as goal

pub returns : goal.returns
returns g c = c.len.ensures.length ∙ map.len-entries _ ∙ ap length c.self.view_is
