use Rattle.batch.proofs.DigitPairs.{value-of_digit}
use Rattle.batch.proofs.digits.digit_value.Goals as goal

pub returns-clause-value : goal.returns-clause-value
returns-clause-value c = value-of_digit c.args.byte
