use Rattle.std.proofs.Common.{◌≡◌, ◌<◌, ◌-◌, ℕ, ap, ◌∙◌, subst, sym, get_or, length, arith}
use Rattle.std.proofs.lemmas.Bool.Decides.{nat_tests}
use Rattle.tape_types.specs.RisingEntries.{IsPosition, keyed}
use Rattle.tape_types.specs.Lemmas.RisingEntries.{position-after_last, length-keyed, keyed-at}
use Rattle.tape_types.proofs.rising_map.is_above_all.Goals as goal

pub returns-in-Some : goal.returns-in-Some
returns-in-Some g c =
    let number = g.K.NumberKey.number in
    let es = c.args.entries.now in
    let last = c.in-Some.field-0.now in
    let same = length-keyed number es in
    let d : ℕ × g.row.V.Denot = (number last.0, last.1) in
    let at-end : get_or (keyed number es) (length es - 1) d ≡ d =
    keyed-at number es (length es - 1) last ∙ ap (λ e. (number e.0, e.1)) (sym (c.in-Some.ensures.item.3.1 last)) in (
      λ above.
          let below : number last.0 < number c.args.key = grind (arith, nat_tests, above, c.number.ensures.value, c.number-in-Some.ensures.value) in
          subst (IsPosition (number c.args.key) (keyed number es)) same
          (position-after_last (number c.args.key) (keyed number es) d c.requires.rising
          (subst (λ n. (get_or (keyed number es) (n - 1) d).0 < number c.args.key) (sym same)
          (subst (λ e. e.0 < number c.args.key) (sym at-end) below))),
      λ at.
          let filled : 0 < length es = omega (arith, c.in-Some.ensures.item.3.0) in
          let below : number last.0 < number c.args.key =
          subst (λ e. e.0 < number c.args.key) at-end (at.below (length es - 1) d (omega arith) (omega arith)) in
          grind (arith, nat_tests, c.number.ensures.value, c.number-in-Some.ensures.value),
    )
