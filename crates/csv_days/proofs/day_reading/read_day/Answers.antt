use Rattle.std.proofs.lemmas.Result.{err_from_is_err_and}
use Rattle.csv_days.proofs.DayReadingLemmas.{ReadsDay-all, StopsDay-rows}
use Rattle.csv_days.proofs.day_reading.read_day.Goals as goal

pub returns-clause-day : goal.returns-clause-day
returns-clause-day g c =
    ReadsDay-all g.R.Read.remaining c.args.matrix (g.R.Read.remaining c.args.reader) c.in_ok-rows.rows c.new-day.result c.answer_rows.new.day
    c.in_ok-rows.ensures.rows c.new-day.ensures.day c.in_ok-answer_rows.ensures.all

pub returns-in_err-answer_rows-clause-end : goal.returns-in_err-answer_rows-clause-end
returns-in_err-answer_rows-clause-end g c =
    let p = err_from_is_err_and c.from_residual-in_err-answer_rows.result c.from_residual-in_err-answer_rows.ensures.1 in
    rw (p.1, p.2) (
      c.in_err-answer_rows.ensures.end.0,
      StopsDay-rows g.R.Read.remaining (g.R.Read.remaining c.args.reader) c.in_ok-rows.rows c.in_err-answer_rows.field-0.0 c.in_ok-rows.ensures.rows
          c.in_err-answer_rows.ensures.end.1,
    )
