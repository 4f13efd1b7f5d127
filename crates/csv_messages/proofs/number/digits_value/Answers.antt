use Rattle.std.proofs.Common.{◌∙◌, ap, arith}
use Rattle.std.specs.Str.Parse.{digits_value}
use Rattle.std.proofs.lemmas.List.{take_all}
use Rattle.csv_messages.proofs.NumeralLemmas.{digits_value-below, digits_value-front, digits_value-small, digits_value-step}
use Rattle.csv_messages.proofs.number.digits_value.Goals as goal

pub overflow_mul-value : goal.overflow_mul-value
overflow_mul-value c =
    let front = digits_value-front c.args.digits.now c.loop-digit.digit-index c.requires.digits c.requires.few in
    omega (arith, c.loop-digit.invariant, front)

pub overflow_add-value : goal.overflow_add-value
overflow_add-value c =
    let front = digits_value-front c.args.digits.now c.loop-digit.digit-index c.requires.digits c.requires.few in
    omega (arith, c.loop-digit.invariant, front)

pub loop-digit-preserved : goal.loop-digit-preserved
loop-digit-preserved c =
    let step = digits_value-step c.args.digits.now c.loop-digit.digit-index c.requires.digits c.loop-digit-test.true in
    omega (arith, c.loop-digit.invariant, step)

pub returns-clause-fits : goal.returns-clause-fits
returns-clause-fits c =
    let below = digits_value-below c.args.digits.now c.requires.digits in
    let value = c.loop-digit.invariant ∙ ap (digits_value 10) (take_all c.loop-digit.digit-index c.args.digits.now (omega arith)) in
    omega arith

pub returns-clause-small : goal.returns-clause-small
returns-clause-small c =
    let small = digits_value-small c.args.digits.now c.requires.digits c.requires.few in
    let value = c.loop-digit.invariant ∙ ap (digits_value 10) (take_all c.loop-digit.digit-index c.args.digits.now (omega arith)) in
    omega arith
