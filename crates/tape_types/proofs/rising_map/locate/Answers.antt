use Rattle.std.proofs.Common.{◌≢◌, ◌≤◌, length, sym, ap, ◌∙◌, arith}
use Rattle.std.specs.Cmp.{nat_cmp_total}
use Rattle.std.specs.FinMap as map
use Rattle.std.proofs.lemmas.Bool.Decides.{nat_tests}
use Rattle.tape_types.specs.RisingEntries.{keyed}
use Rattle.tape_types.specs.Lemmas.RisingEntries.{find-absent, keyed-entry, length-keyed}
use Rattle.tape_types.proofs.rising_map.locate.Goals as goal

-- another key stands there
pub returns-in_default : goal.returns-in_default
returns-in_default g c =
    let number = g.K.NumberKey.number in
    let es = c.args.entries.now in
    let e = c.in-Some.field-0.now in
    let read = c.in-Some.ensures.lookup.3 in
    let differs : number e.0 ≢ number c.args.key = λ same. grind (arith, nat_tests, c.if-number.false) in
    map.get-from_entries nat_cmp_total (keyed number es) (number c.args.key)
    ∙ find-absent (number c.args.key) (keyed number es) c.position_of-index.result c.requires.rising c.position_of-index.ensures
    (λ d lt same. differs (ap (λ x. x.0) (sym (keyed-entry number es c.position_of-index.result e read.0 (read.1 e) d)) ∙ same))

-- no key stands there: the position is past the end
pub returns-in_default-2 : goal.returns-in_default-2
returns-in_default-2 g c =
    let number = g.K.NumberKey.number in
    let es = c.args.entries.now in
    let past : length es ≤ c.position_of-index.result = c.in_default.in-None-own.ensures.3 in
    map.get-from_entries nat_cmp_total (keyed number es) (number c.args.key)
    ∙ find-absent (number c.args.key) (keyed number es) c.position_of-index.result c.requires.rising c.position_of-index.ensures
    (λ d lt. absurd (omega (arith, length-keyed number es)))
