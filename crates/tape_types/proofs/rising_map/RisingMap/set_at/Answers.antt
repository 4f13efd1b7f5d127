use Rattle.std.proofs.Common.{◌<◌, ℕ, ap, ◌∙◌, subst, sym, length}
use Rattle.std.specs.FinMap as map
use Rattle.tape_types.specs.RisingEntries.{StandsIn, keyed}
use Rattle.tape_types.specs.Lemmas.RisingEntries.{keyed-entry, keyed-replaced, keyed-seen, length-keyed, length-seen, stands-at}
use Rattle.tape_types.proofs.rising_map.RisingMap.set_at.Goals as goal

pub index-requires : goal.index-requires
index-requires g c =
    let many = length-seen g.K.NumberKey.number c.self.inside.entries.items c.self.invariant _ (ap (λ s. s.values) c.self.view_is) in
    subst (λ n. c.args.index < n) (sym (c.self.inside.entries.ok.0 ∙ many)) c.requires.within

pub index_mut-requires : goal.index_mut-requires
index_mut-requires g c =
    let many = length-seen g.K.NumberKey.number c.self.inside.entries.items c.self.invariant _ (ap (λ s. s.values) c.self.view_is) in
    subst (λ n. c.args.index < n) (sym (c.self.inside.entries.ok.0 ∙ many)) c.requires.within

-- the key of the entry at this index stands there
pub invariant_of-self : goal.invariant_of-self
invariant_of-self g c =
    let number = g.K.NumberKey.number in
    let es = c.self.inside.entries.items in
    let e = c.index.result.now in
    let d : ℕ × g.row.V.Denot = (number e.0, e.1) in
    let lt : c.args.index < length es =
    subst (λ n. c.args.index < n) (sym (length-seen number es c.self.invariant _ (ap (λ s. s.values) c.self.view_is))) c.requires.within in
    let there = stands-at (keyed number es) c.args.index d c.self.invariant
    (subst (λ n. c.args.index < n) (sym (length-keyed number es)) lt) in
    let is = keyed-entry number es c.args.index e lt c.index.ensures d in
    (keyed-replaced number e.0 es c.self.invariant c.args.index
    (subst (λ (x : ℕ × g.row.V.Denot). StandsIn x.0 (keyed number es) c.args.index) is there) c.args.value).0

-- the map has the new value at the key of the entry at this index
pub returns : goal.returns
returns g c = record {
  changed = λ n at.
      let number = g.K.NumberKey.number in
      let es = c.self.inside.entries.items in
      let e = c.index.result.now in
      let d : ℕ × g.row.V.Denot = (number e.0, e.1) in
      let there = subst (λ l. StandsIn n l c.args.index) (sym (keyed-seen number es c.self.invariant _ (ap (λ s. s.values) c.self.view_is))) at in
      let lt : c.args.index < length es = subst (λ n. c.args.index < n) (length-keyed number es) there.within in
      let is = keyed-entry number es c.args.index e lt c.index.ensures d in
      let same = sym (there.has_key d) ∙ ap (λ (x : ℕ × g.row.V.Denot). x.0) is in
      (keyed-replaced number e.0 es c.self.invariant c.args.index
      (subst (λ k. StandsIn k (keyed number es) c.args.index) same there) c.args.value).1
      ∙ ap (λ s. map.insert s.values (number e.0) c.args.value) c.self.view_is
      ∙ ap (λ k. map.insert c.args.self.now.values k c.args.value) (sym same);
  spare = ap (λ s. s.spare) c.self.view_is;
}
