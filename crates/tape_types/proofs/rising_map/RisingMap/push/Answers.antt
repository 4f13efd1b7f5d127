use Rattle.std.proofs.Common.{◌≡◌, ap, ◌∙◌, subst, sym}
use Rattle.std.specs.Ordering.{nat_cmp}
use Rattle.std.specs.FinMap as map
use Rattle.tape_types.specs.RisingEntries.{AllBelow, HasRisingKeys, IsPosition, keyed}
use Rattle.tape_types.specs.Lemmas.RisingEntries.{keyed-pushed, length-keyed, position-above, vacant-above}
use Rattle.tape_types.proofs.rising_map.RisingMap.push.Given.{Over}
use Rattle.tape_types.proofs.rising_map.RisingMap.push.Goals.{After-push_reserved}
use Rattle.tape_types.proofs.rising_map.RisingMap.push.Goals as goal

-- a key above all others goes to the end
at-end : (g : Over) (c : After-push_reserved g) → (let number = g.K.NumberKey.number in let es = keyed number c.push_reserved.new.self.items in
    HasRisingKeys es × (map.from_entries {R = nat_cmp} es ≡ map.insert c.args.self.now.values (number c.args.key) c.args.value))
at-end g c =
    let number = g.K.NumberKey.number in
    let es = c.self.inside.entries.items in
    let k = number c.args.key in
    let above = subst (λ s. AllBelow s.values k) (sym c.self.view_is) c.requires.above in
    let put =
    keyed-pushed number c.args.key es c.self.invariant c.args.value
    (subst (IsPosition k (keyed number es)) (length-keyed number es) (position-above k (keyed number es) c.self.invariant above)) (vacant-above k _ above) in
    rw (c.push_reserved.ensures.items, c.reserve.ensures.items) (put.0, put.1 ∙ ap (λ s. map.insert s.values k c.args.value) c.self.view_is)

pub invariant_of-self-2 : goal.invariant_of-self-2
invariant_of-self-2 g c = (at-end g c).0

pub returns-clause-ok : goal.returns-clause-ok
returns-clause-ok g c = (at-end g c).1
