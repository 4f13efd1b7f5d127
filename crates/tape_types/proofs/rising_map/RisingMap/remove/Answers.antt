use Rattle.std.proofs.Common.{◌<◌, sym, ap, ◌∙◌, Some, subst, length}
use Rattle.std.specs.FinMap as map
use Rattle.tape_types.specs.RisingEntries.{StandsIn, keyed}
use Rattle.tape_types.specs.Lemmas.RisingEntries.{keyed-entry, keyed-found, keyed-removed, length-keyed, removed-absent}
use Rattle.tape_types.proofs.rising_map.RisingMap.remove.Goals as goal

pub returns-in_err-index-clause-removed : goal.returns-in_err-index-clause-removed
returns-in_err-index-clause-removed g c =
    let k = g.K.NumberKey.number c.args.key in
    let none = rw c.deref.ensures.value at c.in_err-index.ensures in
    removed-absent c.args.self.now.values k (ap (λ m. map.get m k) (sym (ap (λ s. s.values) c.self.view_is)) ∙ none)

pub invariant_of-self : goal.invariant_of-self
invariant_of-self g c =
    let number = g.K.NumberKey.number in
    let es = c.self.inside.entries.items in
    let e = c.remove-value.result in
    let i = c.in_ok-index.index in
    let at = subst (λ l. StandsIn (number c.args.key) (keyed number l) i) c.deref.ensures.value c.in_ok-index.ensures in
    rw c.remove-value.ensures.items (keyed-removed number c.args.key es c.self.invariant i at (number e.0, e.1)).0

pub returns-clause-value : goal.returns-clause-value
returns-clause-value g c =
    let number = g.K.NumberKey.number in
    let es = c.self.inside.entries.items in
    let e = c.remove-value.result in
    let i = c.in_ok-index.index in
    let at = subst (λ l. StandsIn (number c.args.key) (keyed number l) i) c.deref.ensures.value c.in_ok-index.ensures in
    let lt : i < length es = subst (λ n. i < n) (length-keyed number es) at.within in
    ap (λ x. Some x.1) (sym (keyed-entry number es i e lt c.remove-value.ensures.value (number e.0, e.1)))
    ∙ sym (keyed-found number c.args.key es c.self.invariant i at (number e.0, e.1))
    ∙ ap (λ s. map.get s.values (number c.args.key)) c.self.view_is

pub returns-clause-removed : goal.returns-clause-removed
returns-clause-removed g c =
    let number = g.K.NumberKey.number in
    let es = c.self.inside.entries.items in
    let e = c.remove-value.result in
    let i = c.in_ok-index.index in
    let at = subst (λ l. StandsIn (number c.args.key) (keyed number l) i) c.deref.ensures.value c.in_ok-index.ensures in
    rw c.remove-value.ensures.items (keyed-removed number c.args.key es c.self.invariant i at (number e.0, e.1)).1
    ∙ ap (λ s. map.remove s.values (number c.args.key)) c.self.view_is
