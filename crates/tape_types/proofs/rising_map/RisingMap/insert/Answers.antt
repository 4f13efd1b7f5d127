use Rattle.std.proofs.Common.{◌≡◌, ap, ◌∙◌}
use Rattle.std.specs.Ordering.{nat_cmp}
use Rattle.std.specs.FinMap as map
use Rattle.tape_types.specs.RisingEntries.{HasRisingKeys, keyed}
use Rattle.tape_types.specs.Lemmas.RisingEntries.{keyed-inserted, keyed-pushed}
use Rattle.tape_types.proofs.rising_map.RisingMap.insert.Given.{Over}
use Rattle.tape_types.proofs.rising_map.RisingMap.insert.Goals.{After-push_reserved, In_ok-insert}
use Rattle.tape_types.proofs.rising_map.RisingMap.insert.Goals as goal

-- a key above all others goes to the end
at-end : (g : Over) (c : After-push_reserved g) → (let number = g.K.NumberKey.number in let es = keyed number c.push_reserved.new.self.items in
    HasRisingKeys es × (map.from_entries {R = nat_cmp} es ≡ map.insert c.args.self.now.values (number c.args.key) c.args.value))
at-end g c =
    let k = g.K.NumberKey.number c.args.key in
    let put =
    keyed-pushed g.K.NumberKey.number c.args.key c.self.inside.entries.items c.self.invariant c.args.value
    (rw (c.deref.ensures.value, c.reserve.ensures.items) at (c.is_above_all.ensures.0 c.if-is_above_all.true))
    (ap (λ s. map.get s.values k) c.self.view_is ∙ c.requires.vacant) in
    rw (c.push_reserved.ensures.items, c.reserve.ensures.items) (put.0, put.1 ∙ ap (λ s. map.insert s.values k c.args.value) c.self.view_is)

pub invariant_of-self-then-is_above_all : goal.invariant_of-self-then-is_above_all
invariant_of-self-then-is_above_all g c = (at-end g c).0

pub returns-then-is_above_all-clause-ok : goal.returns-then-is_above_all-clause-ok
returns-then-is_above_all-clause-ok g c = (at-end g (goal.at.returns-then-is_above_all-clause-ok g c).After-push_reserved).1

-- any other key goes to its position
at-position : (g : Over) (c : In_ok-insert g) → (let number = g.K.NumberKey.number in let es = keyed number c.insert.new.self.items in
    HasRisingKeys es × (map.from_entries {R = nat_cmp} es ≡ map.insert c.args.self.now.values (number c.args.key) c.args.value))
at-position g c =
    let k = g.K.NumberKey.number c.args.key in
    let put =
    keyed-inserted g.K.NumberKey.number c.args.key c.self.inside.entries.items c.self.invariant c.args.value c.position_of-index.result
    (rw (c.deref-else-is_above_all.ensures.value, c.reserve.ensures.items) at c.position_of-index.ensures)
    (ap (λ s. map.get s.values k) c.self.view_is ∙ c.requires.vacant) in
    rw (c.in_ok-insert.ensures.items, c.reserve.ensures.items) (put.0, put.1 ∙ ap (λ s. map.insert s.values k c.args.value) c.self.view_is)

pub invariant_of-self-in-Continue-branch-2 : goal.invariant_of-self-in-Continue-branch-2
invariant_of-self-in-Continue-branch-2 g c = (at-position g c).0

pub returns-in_ok-insert-clause-ok : goal.returns-in_ok-insert-clause-ok
returns-in_ok-insert-clause-ok g c = (at-position g c).1
