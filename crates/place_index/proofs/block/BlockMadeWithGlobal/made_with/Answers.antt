use Rattle.std.proofs.Common.{[], ap, sym, ◌∙◌}
use Rattle.std.specs.FinMap as map
use Rattle.tape_types.specs.Lemmas.RisingEntries.{entries-seen}
use Rattle.place_index.specs.Blocks.{top}
use Rattle.place_index.proofs.block.BlockMadeWithGlobal.made_with.Goals as goal

pub returns : goal.returns
returns g c = ap map.entries c.new.ensures.empty ∙ entries-seen [] tt

pub invariant_of-result : goal.invariant_of-result
invariant_of-result g c = ap top (sym (ap map.entries c.new.ensures.empty ∙ entries-seen [] tt))
