use Rattle.std.proofs.Common.{◌≡◌, Ok, true, false, ap}
use Rattle.batch.proofs.DayLemmas.{AnswersTaken-both, AnswersTaken-line}
use Rattle.batch.proofs.InputLemmas.{TakesLines-fits}
use Rattle.batch.proofs.day.BatchDay.answer_all.Goals as goal

pub loop-self-preserved : goal.loop-self-preserved
loop-self-preserved g c =
    let some : c.in_ok-next_line.field-0 ≡ true = cc in
    let line = AnswersTaken-line _ _ _ _ _ _ _ (rw c.deref.ensures.value at c.in_ok-answer_line.ensures.answered) (rw some at c.in_ok-next_line.ensures.took) in
    AnswersTaken-both _ _ _ _ _ _ _ _ _ (AnswersTaken-both _ _ _ _ _ _ _ _ _ c.loop-self.invariant line) c.in_ok-answer_piece-2.ensures.answered

pub returns-then-not-branch-clause-fits : goal.returns-then-not-branch-clause-fits
returns-then-not-branch-clause-fits g c =
    let none : c.in_ok-next_line.field-0 ≡ false = cc in
    TakesLines-fits _ _ _ _ _ _ _ _ c.loop-self.invariant.took (c.in_ok-next_line.ensures.end (ap Ok none)).0
    (rw none at c.in_ok-next_line.ensures.took) c.in_ok-next_line.ensures.fits
