use Rattle.std.proofs.Common.{rules}
use Rattle.day_terms.proofs.DigitLemmas.{each_read}
use Rattle.day_terms.proofs.argument_reading.decimal.Goals as goal

-- the number read from the text of digits
pub returns-clause-each : goal.returns-clause-each
returns-clause-each c = λ number is few.
    let read = each_read c.args.word.now c.parse.result (search rules) number is few in
    search rules
