use Rattle.std.proofs.Common.{sym, ap, ◌∙◌}
use Rattle.std.specs.FinMap as map
use Rattle.tape_types.specs.RisingEntries.{keyed}
use Rattle.tape_types.specs.Lemmas.RisingEntries.{entries-seen}
use Rattle.tape_types.proofs.rising_map.RisingMap.entries.Goals as goal

pub returns : goal.returns
returns g c = record {
  entries =
      ap (keyed g.K.NumberKey.number) c.as_slice.ensures.value ∙ sym (entries-seen _ c.self.invariant) ∙ ap (λ s. map.entries s.values) c.self.view_is;
}
