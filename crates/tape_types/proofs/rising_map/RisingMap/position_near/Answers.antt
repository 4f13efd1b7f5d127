use Rattle.std.proofs.Common.{◌≡◌, ◌<◌, ℕ, ap, ◌∙◌, subst, sym, length, arith}
use Rattle.std.proofs.lemmas.Bool.Decides.{nat_tests}
use Rattle.tape_types.specs.RisingEntries.{StandsIn, keyed}
use Rattle.tape_types.specs.Lemmas.RisingEntries.{keyed-entry, keyed-seen, length-keyed, stands-at}
use Rattle.tape_types.proofs.rising_map.RisingMap.position_near.Goals as goal

-- the entry at the hint has the key, so the key stands there
pub returns-in-Some : goal.returns-in-Some
returns-in-Some g c = record {
  position =
      let number = g.K.NumberKey.number in
      let es = c.self.inside.entries.items in
      let e = c.in-Some.field-0.now in
      let d : ℕ × g.row.V.Denot = (number e.0, e.1) in
      let read = rw c.deref.ensures.value at c.in-Some.ensures.lookup.3 in
      let lt : c.args.hint < length (keyed number es) = subst (λ n. c.args.hint < n) (sym (length-keyed number es)) read.0 in
      let same : number e.0 ≡ number c.args.key = grind (arith, nat_tests, c.if-number.true) in
      let there = stands-at (keyed number es) c.args.hint d c.self.invariant lt in
      let is = ap (λ (x : ℕ × g.row.V.Denot). x.0) (keyed-entry number es c.args.hint e read.0 (read.1 e) d) ∙ same in
      subst (λ l. StandsIn (number c.args.key) l c.args.hint) (keyed-seen number es c.self.invariant _ (ap (λ s. s.values) c.self.view_is))
      (subst (λ k. StandsIn k (keyed number es) c.args.hint) is there);
}
