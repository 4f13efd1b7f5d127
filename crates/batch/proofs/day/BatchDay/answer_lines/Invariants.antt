use Rattle.batch.specs.Lines.{lines_of}
use Rattle.batch.proofs.DayLemmas.{AnsweredSome}
use Rattle.batch.proofs.day.BatchDay.answer_lines.Given as goal

abbrev pub invariant-loop-line : goal.invariant-loop-line
invariant-loop-line l = record {
  can : goal.iterator-loop-line.can_next l.line-iterator;
  finite : goal.iterator-loop-line.is_finite l.line-iterator;
  answered : AnsweredSome l.fn.self l.self (lines_of l.fn.lines.rest.now) (lines_of l.line-iterator.rest.now);
}
