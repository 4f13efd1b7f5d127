use Rattle.std.proofs.Common.{rules, ◌+◌, arith, length-drop}
use Rattle.day_terms.proofs.WordLemmas.{position_within, rest-slice, words_of-more, words_of-none}
use Rattle.day_terms.proofs.argument_reading.first_argument.Goals as goal

pub returns-in_err-end : goal.returns-in_err-end
returns-in_err-end c = rw c.from_residual.ensures (words_of-none c.args.bytes.now (search rules))

pub returns : goal.returns
returns c =
    let bytes = c.args.bytes.now in
    let end = c.in_ok-end.end in
    let within = position_within 0 bytes end (search rules) in
    rw (rest-slice bytes end) (words_of-more bytes end (search rules), omega (arith, within, length-drop (end + 1) bytes))
