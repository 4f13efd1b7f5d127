use Rattle.std.proofs.Common.{◌≡◌, ◌<◌, sym, ap, ◌∙◌, None, Some, subst, length}
use Rattle.std.specs.Prelude.{MatchOption}
use Rattle.std.specs.Ordering.{nat_cmp}
use Rattle.std.specs.FinMap as map
use Rattle.tape_types.specs.RisingEntries.{StandsIn, keyed}
use Rattle.tape_types.specs.Lemmas.RisingEntries.{keyed-entry, keyed-found, keyed-replaced, length-keyed}
use Rattle.tape_types.proofs.rising_map.RisingMap.set.Goals as goal

pub invariant_of-self : goal.invariant_of-self
invariant_of-self g c =
    let number = g.K.NumberKey.number in
    let es = c.self.inside.entries.items in
    let k = number c.args.key in
    let found = subst (λ l. MatchOption c.locate.result (map.get (map.from_entries {R = nat_cmp} (keyed number l)) k ≡ None)
    (StandsIn k (keyed number l))) c.deref.ensures.value c.locate.ensures in
    let at = subst (λ o. MatchOption o (map.get (map.from_entries {R = nat_cmp} (keyed number es)) k ≡ None)
    (StandsIn k (keyed number es))) c.unwrap-index.ensures found in
    (keyed-replaced number c.args.key es c.self.invariant c.unwrap-index.result at c.args.value).0

pub returns-clause-former : goal.returns-clause-former
returns-clause-former g c =
    let number = g.K.NumberKey.number in
    let es = c.self.inside.entries.items in
    let k = number c.args.key in
    let e = c.index.result.now in
    let i = c.unwrap-index.result in
    let found = subst (λ l. MatchOption c.locate.result (map.get (map.from_entries {R = nat_cmp} (keyed number l)) k ≡ None)
    (StandsIn k (keyed number l))) c.deref.ensures.value c.locate.ensures in
    let at = subst (λ o. MatchOption o (map.get (map.from_entries {R = nat_cmp} (keyed number es)) k ≡ None)
    (StandsIn k (keyed number es))) c.unwrap-index.ensures found in
    let lt : i < length es = subst (λ n. i < n) (length-keyed number es) at.within in
    ap (λ x. Some x.1) (sym (keyed-entry number es i e lt c.index.ensures (number e.0, e.1)))
    ∙ sym (keyed-found number c.args.key es c.self.invariant i at (number e.0, e.1))
    ∙ ap (λ s. map.get s.values k) c.self.view_is

pub returns-clause-changed : goal.returns-clause-changed
returns-clause-changed g c =
    let number = g.K.NumberKey.number in
    let es = c.self.inside.entries.items in
    let k = number c.args.key in
    let found = subst (λ l. MatchOption c.locate.result (map.get (map.from_entries {R = nat_cmp} (keyed number l)) k ≡ None)
    (StandsIn k (keyed number l))) c.deref.ensures.value c.locate.ensures in
    let at = subst (λ o. MatchOption o (map.get (map.from_entries {R = nat_cmp} (keyed number es)) k ≡ None)
    (StandsIn k (keyed number es))) c.unwrap-index.ensures found in
    (keyed-replaced number c.args.key es c.self.invariant c.unwrap-index.result at c.args.value).1
    ∙ ap (λ s. map.insert s.values k c.args.value) c.self.view_is
