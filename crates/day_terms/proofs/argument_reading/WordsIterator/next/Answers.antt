use Rattle.std.proofs.Common.{rules, arith}
use Rattle.day_terms.proofs.WordLemmas.{rest-slice, words_of-more, words_of-none}
use Rattle.day_terms.proofs.argument_reading.WordsIterator.next.Goals as goal

pub returns-in_err-end-clause-steps : goal.returns-in_err-end-clause-steps
returns-in_err-end-clause-steps c =
    let none = words_of-none c.args.self.now.rest.now (search rules) in
    rw c.from_residual.ensures (none, none)

pub returns-clause-steps : goal.returns-clause-steps
returns-clause-steps c =
    let bytes = c.args.self.now.rest.now in
    rw (rest-slice bytes c.in_ok-end.end) (words_of-more bytes c.in_ok-end.end (search rules))

pub returns-clause-goes : goal.returns-clause-goes
returns-clause-goes c =
    let bytes = c.args.self.now.rest.now in
    let first = words_of-more bytes c.in_ok-end.end (search rules) in
    record {
      on = λ _. (tt, tt, rw (rest-slice bytes c.in_ok-end.end, first) (omega arith));
      keeps = tt;
      rests = λ _. tt;
    }
