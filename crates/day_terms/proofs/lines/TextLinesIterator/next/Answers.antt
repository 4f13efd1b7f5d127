use Rattle.std.proofs.Common.{rules, arith}
use Rattle.day_terms.proofs.LineLemmas.{lines-last, lines-more, lines-none, rest-slice}
use Rattle.day_terms.proofs.lines.TextLinesIterator.next.Goals as goal

pub returns-then-is_empty-clause-steps : goal.returns-then-is_empty-clause-steps
returns-then-is_empty-clause-steps c = let none = lines-none c.args.self.now.rest.now (search rules) in (none, none)

pub returns-in-Some-clause-steps : goal.returns-in-Some-clause-steps
returns-in-Some-clause-steps c =
    let text = c.args.self.now.rest.now in
    rw (rest-slice text c.in-Some.end) (lines-more text c.in-Some.end (search rules))

pub returns-in-Some-clause-goes : goal.returns-in-Some-clause-goes
returns-in-Some-clause-goes c =
    let text = c.args.self.now.rest.now in
    let first = lines-more text c.in-Some.end (search rules) in
    record {
      on = λ _. (tt, tt, rw (rest-slice text c.in-Some.end, first) (omega arith));
      keeps = tt;
      rests = λ _. tt;
    }

pub returns-in-None-clause-steps : goal.returns-in-None-clause-steps
returns-in-None-clause-steps c = lines-last c.args.self.now.rest.now (search rules) (search rules)

pub returns-in-None-clause-goes : goal.returns-in-None-clause-goes
returns-in-None-clause-goes c =
    let last = lines-last c.args.self.now.rest.now (search rules) (search rules) in
    record {
      on = λ _. (tt, tt, rw last (omega arith));
      keeps = tt;
      rests = λ _. tt;
    }
