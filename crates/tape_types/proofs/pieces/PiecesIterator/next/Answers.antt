use Rattle.std.proofs.Common.{◌≡◌, ◌∙◌, ap}
use Rattle.memchr.specs.Find.{is_byte}
use Rattle.tape_types.specs.Header.{pieces_of}
use Rattle.tape_types.specs.Pieces.{pieces_left, pieces_of_rest}
use Rattle.tape_types.specs.Lemmas.Parts.{fewer_parts, first_part, one_part, take-behind}
use Rattle.tape_types.proofs.pieces.PiecesIterator.next.Goals as goal

pub returns-in-None-clause-steps : goal.returns-in-None-clause-steps
returns-in-None-clause-steps c = ap (pieces_of_rest c.args.self.now.separator) c.in_ok-rest.was ∙ one_part (is_byte c.args.self.now.separator) c.in_ok-rest.rest.now c.in-None.ensures

pub returns-in-Some-clause-steps : goal.returns-in-Some-clause-steps
returns-in-Some-clause-steps c =
    let text = c.in_ok-rest.rest.now in
    let end = c.in-Some.end in
    rw (take-behind text end) (ap (pieces_of_rest c.args.self.now.separator) c.in_ok-rest.was ∙ first_part (is_byte c.args.self.now.separator) text end c.in-Some.ensures)

pub returns-in-Some-clause-goes : goal.returns-in-Some-clause-goes
returns-in-Some-clause-goes c =
    let text = c.in_ok-rest.rest.now in
    let end = c.in-Some.end in
    let left : pieces_left c.args.self.now ≡ pieces_of c.args.self.now.separator text = ap (pieces_of_rest c.args.self.now.separator) c.in_ok-rest.was in
    record {
      on = λ _. (tt, tt, rw left (fewer_parts (pieces_of c.args.self.now.separator) text end (first_part (is_byte c.args.self.now.separator) text end c.in-Some.ensures)));
      keeps = tt;
      rests = λ _. tt;
    }
