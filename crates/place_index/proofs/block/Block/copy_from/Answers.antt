use Rattle.std.proofs.Common.{◌≤◌, ap, subst, sym, length, ◌∙◌}
use Rattle.std.specs.FinMap as map
use Rattle.place_index.specs.Blocks.{top}
use Rattle.tape_types.specs.Lemmas.RisingEntries.{keyed-itself}
use Rattle.place_index.proofs.block.Block.copy_from.Goals as goal

pub copy_from-requires : goal.copy_from-requires
copy_from-requires g c = subst (λ n. c.args.index ≤ n) (ap length (sym c.self.view_is) ∙ sym (map.len-entries _)) c.requires

pub invariant_of-result : goal.invariant_of-result
invariant_of-result g c = c.top_of-greatest.ensures ∙ ap top (sym (keyed-itself c.entries.result.now) ∙ c.entries.ensures.entries)
