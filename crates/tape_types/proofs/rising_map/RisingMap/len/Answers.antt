use Rattle.std.proofs.Common.{ap, ◌∙◌}
use Rattle.tape_types.specs.Lemmas.RisingEntries.{length-seen}
use Rattle.tape_types.proofs.rising_map.RisingMap.len.Goals as goal

pub returns : goal.returns
returns g c = record {
  length =
      c.len.ensures ∙ c.self.inside.entries.ok.0
      ∙ length-seen g.K.NumberKey.number c.self.inside.entries.items c.self.invariant _ (ap (λ s. s.values) c.self.view_is);
}
