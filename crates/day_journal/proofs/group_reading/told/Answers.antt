use Rattle.std.proofs.Common.{◌≡◌, ◌+◌, ◌-◌, ◌∙◌, ℕ, ap, drop, length, sym, take}
use Rattle.std.proofs.lemmas.Bool.{eq-eqb, ne_eqb}
use Rattle.std.proofs.lemmas.List.{drop_min, take_rest}
use Rattle.std.proofs.lemmas.Result.{err_from_is_err_and}
use Rattle.day_journal.specs.GroupReading.{told_at}
use Rattle.day_journal.proofs.ReadPackets.{number_alone, told_here, told_next, told_none, told_stops}
use Rattle.day_journal.proofs.group_reading.told.Goals as goal

pub returns-in_err-len : goal.returns-in_err-len
returns-in_err-len c =
    let p = err_from_is_err_and c.from_residual.result c.from_residual.ensures.1 in
    let stops = told_stops (length c.args.bytes.now) c.loop-place.place c.loop-place.rest.now c.in_err-len.field-0.0 c.loop-place-test.true (rw c.of-unread.ensures.rest at c.in_err-len.ensures.reads) in
    rw (p.1, p.2) (sym stops ∙ c.loop-place.invariant)

pub returns-then-len-eq0 : goal.returns-then-len-eq0
returns-then-len-eq0 c =
    let here = told_here (length c.args.bytes.now) c.loop-place.place c.loop-place.rest.now c.u16.new.self.rest.now c.in_ok-len.field-0 c.loop-place-test.true
    (rw c.of-unread.ensures.rest at c.in_ok-len.ensures.reads) (eq-eqb c.in_ok-len.field-0 0 c.if-len-eq0.true) in
    number_alone c.u32.result c.u32.new.self.rest.now _ c.u32.ensures.reads ∙ sym here ∙ c.loop-place.invariant

pub loop-place-preserved : goal.loop-place-preserved
loop-place-preserved c =
    let rest = c.u16.new.self.rest.now in
    let next = told_next (length c.args.bytes.now) c.loop-place.place c.loop-place.rest.now rest c.in_ok-len.field-0 c.loop-place-test.true
    (rw c.of-unread.ensures.rest at c.in_ok-len.ensures.reads) (ne_eqb c.in_ok-len.field-0 0 c.if-len-eq0.false) in
    let same : take (length rest - c.min.result) (drop c.min.result rest) ≡ drop c.in_ok-len.field-0 rest =
    take_rest rest c.min.result ∙ ap (λ (n : ℕ). drop n rest) c.min.ensures ∙ drop_min c.in_ok-len.field-0 rest in
    ap (told_at (length c.args.bytes.now - (c.loop-place.place + 1))) same ∙ next ∙ c.loop-place.invariant

pub returns : goal.returns
returns c = sym (told_none (length c.args.bytes.now) c.loop-place.place c.loop-place.rest.now c.loop-place-test.false) ∙ c.loop-place.invariant
