use Rattle.std.proofs.Common.{◌<◌, sym, ap, ◌∙◌, Some, subst, length}
use Rattle.std.specs.FinMap as map
use Rattle.tape_types.specs.RisingEntries.{StandsIn, keyed}
use Rattle.tape_types.specs.Lemmas.RisingEntries.{keyed-entry, keyed-found, length-keyed}
use Rattle.tape_types.proofs.rising_map.RisingMap.get.Goals as goal

pub returns : goal.returns
returns g c = record {
  value =
      let number = g.K.NumberKey.number in
      let es = c.self.inside.entries.items in
      let e = c.index.result.now in
      let i = c.in_ok-index.index in
      let at = subst (λ l. StandsIn (number c.args.key) (keyed number l) i) c.deref.ensures.value c.in_ok-index.ensures in
      let lt : i < length es = subst (λ n. i < n) (length-keyed number es) at.within in
      ap (λ x. Some x.1) (sym (keyed-entry number es i e lt c.index.ensures (number e.0, e.1)))
      ∙ sym (keyed-found number c.args.key es c.self.invariant i at (number e.0, e.1))
      ∙ ap (λ s. map.get s.values (number c.args.key)) c.self.view_is;
}
