use Rattle.std.proofs.Common.{◌≡◌, None, ap, subst}
use Rattle.std.specs.Prelude.{MatchOption}
use Rattle.std.specs.Ordering.{nat_cmp}
use Rattle.std.specs.FinMap as map
use Rattle.tape_types.specs.RisingEntries.{StandsIn, keyed}
use Rattle.tape_types.specs.Lemmas.RisingEntries.{keyed-seen}
use Rattle.tape_types.proofs.rising_map.RisingMap.position.Goals as goal

pub returns : goal.returns
returns g c =
    let number = g.K.NumberKey.number in
    let es = c.self.inside.entries.items in
    let k = number c.args.key in
    let seen = ap (λ s. s.values) c.self.view_is in
    let found = rw c.deref.ensures.value at c.locate.ensures in
    record {
      position = subst (λ m. MatchOption c.locate.result (map.get m k ≡ None) (StandsIn k (map.entries c.args.self.now.values))) seen
          (subst (λ l. MatchOption c.locate.result (map.get (map.from_entries {R = nat_cmp} (keyed number es)) k ≡ None) (StandsIn k l))
          (keyed-seen number es c.self.invariant _ seen) found);
    }
