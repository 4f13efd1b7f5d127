use Rattle.std.proofs.Common.{ap, ◌∙◌, subst, sym, take}
use Rattle.std.specs.Ordering.{nat_cmp}
use Rattle.std.specs.FinMap as map
use Rattle.tape_types.specs.RisingEntries.{HasRisingKeys, keyed}
use Rattle.tape_types.specs.Lemmas.RisingEntries.{entries-seen, keyed-take, rising-take}
use Rattle.tape_types.proofs.rising_map.RisingMap.truncate.Goals as goal

pub invariant_of-self : goal.invariant_of-self
invariant_of-self g c =
    let number = g.K.NumberKey.number in
    let as_keyed = ap (keyed number) c.truncate.ensures.items ∙ keyed-take number c.args.index c.self.inside.entries.items in
    subst HasRisingKeys (sym as_keyed) (rising-take c.args.index _ c.self.invariant)

pub returns : goal.returns
returns g c = record {
  entries =
      let number = g.K.NumberKey.number in
      let as_keyed = ap (keyed number) c.truncate.ensures.items ∙ keyed-take number c.args.index c.self.inside.entries.items in
      ap (λ l. map.entries (map.from_entries {R = nat_cmp} l)) as_keyed
      ∙ entries-seen _ (rising-take c.args.index _ c.self.invariant)
      ∙ ap (take c.args.index) (sym (entries-seen _ c.self.invariant) ∙ ap (λ s. map.entries s.values) c.self.view_is);
}
