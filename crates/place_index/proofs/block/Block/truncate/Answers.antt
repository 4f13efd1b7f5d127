use Rattle.std.proofs.Common.{ap, sym, ◌∙◌}
use Rattle.place_index.specs.Blocks.{top}
use Rattle.tape_types.specs.Lemmas.RisingEntries.{keyed-itself}
use Rattle.place_index.proofs.block.Block.truncate.Goals as goal

pub invariant_of-self : goal.invariant_of-self
invariant_of-self g c = c.top_of-self-inside.ensures ∙ ap top (sym (keyed-itself c.entries.result.now) ∙ c.entries.ensures.entries)
