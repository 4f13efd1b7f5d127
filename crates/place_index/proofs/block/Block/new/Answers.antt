use Rattle.std.proofs.Common.{[], ap, sym, ◌∙◌}
use Rattle.std.specs.Ordering.{nat_cmp}
use Rattle.std.specs.Cmp.{nat_cmp_total}
use Rattle.std.specs.FinMap as map
use Rattle.tape_types.specs.Lemmas.RisingEntries.{entries-seen}
use Rattle.place_index.specs.Blocks.{top}
use Rattle.place_index.proofs.block.Block.new.Goals as goal

pub insert-requires : goal.insert-requires
insert-requires g c = record { vacant = ap (λ m. map.get m c.args.place) c.new-entries.ensures.empty ∙ map.get-empty nat_cmp c.args.place }

pub returns : goal.returns
returns g c =
    ap map.entries (c.in_ok-insert.ensures.ok ∙ ap (λ m. map.insert m c.args.place c.args.value) c.new-entries.ensures.empty)
    ∙ map.entries-insert nat_cmp_total map.empty c.args.place c.args.value
    ∙ ap (map.put nat_cmp c.args.place c.args.value) (entries-seen [] tt)

pub invariant_of-result : goal.invariant_of-result
invariant_of-result g c =
    c.value.ensures.value
    ∙ ap top (sym (ap map.entries (c.in_ok-insert.ensures.ok ∙ ap (λ m. map.insert m c.args.place c.args.value) c.new-entries.ensures.empty)
    ∙ map.entries-insert nat_cmp_total map.empty c.args.place c.args.value
    ∙ ap (map.put nat_cmp c.args.place c.args.value) (entries-seen [] tt)))
