use Rattle.std.proofs.Common.{◌≡◌, Some, ap, arith, length, refl}
use Rattle.csv_messages.specs.Numbers.{decimals_of}
use Rattle.csv_messages.proofs.price.decimals_of.Goals as goal

pub returns-in_default-clause-value : goal.returns-in_default-clause-value
unfolding decimals_of
returns-in_default-clause-value c =
    let numeral = c.if-not-is_numeral.ensures in
    let some = numeral.some refl in
    let few = numeral.few refl in
    let four : length c.args.text.now ≡ 4 = omega (arith, some, few) in
    rw (← numeral.value, four, c.digits_value-decimals.ensures.value) (ap Some (omega arith))
