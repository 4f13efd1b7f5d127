use Rattle.std.proofs.Common.{arith}
use Rattle.std.proofs.lemmas.Grind.{common_steps}
use Rattle.batch.specs.Lines.{lines_of}
use Rattle.batch.proofs.LineLemmas.{lines_of-first, lines_of-last, lines_of-some}
use Rattle.tape_types.specs.Lemmas.Parts.{fewer_parts, take-behind}
use Rattle.batch.proofs.lines.WholeLinesIterator.next.Goals as goal

pub returns-in-None-clause-steps : goal.returns-in-None-clause-steps
returns-in-None-clause-steps c = lines_of-last c.args.self.now.rest.now (grind (arith, common_steps)) c.in-None.ensures

pub returns-in-None-clause-goes : goal.returns-in-None-clause-goes
returns-in-None-clause-goes c = record {
  on = λ _. (tt, tt, lines_of-some c.args.self.now.rest.now (grind (arith, common_steps)) c.in-None.ensures);
  keeps = tt;
  rests = λ _. tt;
}

pub returns-in-Some-clause-steps : goal.returns-in-Some-clause-steps
returns-in-Some-clause-steps c =
    let text = c.args.self.now.rest.now in
    let end = c.in-Some.end in
    rw (take-behind text end) (lines_of-first text end c.in-Some.ensures)

pub returns-in-Some-clause-goes : goal.returns-in-Some-clause-goes
returns-in-Some-clause-goes c =
    let text = c.args.self.now.rest.now in
    let end = c.in-Some.end in
    record {
      on = λ _. (tt, tt, fewer_parts lines_of text end (lines_of-first text end c.in-Some.ensures));
      keeps = tt;
      rests = λ _. tt;
    }
