use Rattle.std.proofs.Common.{◌≤◌, ap, ◌∙◌, subst, sym, length, drop}
use Rattle.std.specs.Ordering.{nat_cmp}
use Rattle.std.specs.FinMap as map
use Rattle.tape_types.specs.RisingEntries.{HasRisingKeys, keyed}
use Rattle.tape_types.specs.Lemmas.RisingEntries.{entries-seen, keyed-drop, length-keyed, rising-drop}
use Rattle.tape_types.proofs.rising_map.RisingMap.copy_from.Goals as goal

pub copied_from-requires : goal.copied_from-requires
copied_from-requires g c =
    let number = g.K.NumberKey.number in
    let es = c.self.inside.entries.items in
    let many = ap (λ s. map.len s.values) (sym c.self.view_is) ∙ map.len-entries _ ∙ ap length (entries-seen _ c.self.invariant) ∙ length-keyed number es
    ∙ ap length (sym c.deref.ensures.value) in
    subst (λ n. c.args.index ≤ n) many c.requires

pub invariant_of-result : goal.invariant_of-result
invariant_of-result g c =
    let number = g.K.NumberKey.number in
    let is = c.in_ok-entries.ensures ∙ ap (drop c.args.index) c.deref.ensures.value in
    subst HasRisingKeys (sym (ap (keyed number) is ∙ keyed-drop number c.args.index c.self.inside.entries.items)) (rising-drop c.args.index _ c.self.invariant)

pub returns : goal.returns
returns g c = record {
  entries =
      let number = g.K.NumberKey.number in
      let es = c.self.inside.entries.items in
      let is = c.in_ok-entries.ensures ∙ ap (drop c.args.index) c.deref.ensures.value in
      let as_keyed = ap (keyed number) is ∙ keyed-drop number c.args.index es in
      ap (λ l. map.entries (map.from_entries {R = nat_cmp} l)) as_keyed
      ∙ entries-seen _ (rising-drop c.args.index _ c.self.invariant)
      ∙ ap (drop c.args.index) (sym (entries-seen _ c.self.invariant) ∙ ap (λ s. map.entries s.values) c.self.view_is);
}
