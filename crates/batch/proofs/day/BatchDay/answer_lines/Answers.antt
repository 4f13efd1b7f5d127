use Rattle.batch.proofs.DayLemmas.{AnsweredSome-line}
use Rattle.batch.proofs.day.BatchDay.answer_lines.Goals as goal

pub loop-line-preserved : goal.loop-line-preserved
loop-line-preserved c = record {
  can = tt;
  finite = tt;
  answered = AnsweredSome-line _ _ _ _ _ _ _ c.in-Some.ensures.steps c.in_ok-answer_line.ensures.answered c.loop-line.invariant.answered;
}
