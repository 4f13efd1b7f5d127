use Rattle.std.proofs.Common.{◌≡◌, ◌≤◌, arith, length, length-take-le, rules, take}
use Rattle.std.proofs.lemmas.Result.{err_from_is_err_and}
use Rattle.day_control.specs.Commands.{command_of}
use Rattle.day_control.specs.Serving.{IsWhole}
use Rattle.day_control.proofs.ServeLemmas.{Serves-none, nothing_read, read_answered, read_failed, too_long_failed}
use Rattle.day_control.proofs.serving.serve_next.Goals as goal

pub returns-in-Line-clause-ok : goal.returns-in-Line-clause-ok
returns-in-Line-clause-ok g c =
    let row = c.read_line.new.row in
    let len = c.in-Line.len in
    let size : length row ≡ 65 = search rules in
    let command : c.of_line.result ≡ command_of (take len row) = search rules in
    let fits : len ≤ length row = omega (arith, size, c.in-Line.ensures.0) in
    let whole : IsWhole (take len row) = (c.in-Line.ensures.1, omega (arith, length-take-le len row fits, c.in-Line.ensures.0)) in
    read_answered c.answer.result c.of_line.result (g.O.Operator.calls c.args.operator.now) (g.O.Operator.calls c.answer.new.operator)
    (g.R.Read.remaining c.args.reader.now) (g.R.Read.remaining c.read_line.new.reader) (g.W.Write.contents c.args.writer.now)
    (g.W.Write.contents c.answer.new.writer) (take len row) whole c.in-Line.ensures.2 command c.answer.ensures.ok

pub returns-in-Line-clause-err : goal.returns-in-Line-clause-err
returns-in-Line-clause-err g c =
    let row = c.read_line.new.row in
    let len = c.in-Line.len in
    let size : length row ≡ 65 = search rules in
    let command : c.of_line.result ≡ command_of (take len row) = search rules in
    let fits : len ≤ length row = omega (arith, size, c.in-Line.ensures.0) in
    let whole : IsWhole (take len row) = (c.in-Line.ensures.1, omega (arith, length-take-le len row fits, c.in-Line.ensures.0)) in
    read_failed c.answer.result c.of_line.result (g.O.Operator.calls c.args.operator.now) (g.O.Operator.calls c.answer.new.operator)
    (g.R.Read.remaining c.args.reader.now) (g.R.Read.remaining c.read_line.new.reader) (g.W.Write.contents c.args.writer.now)
    (g.W.Write.contents c.answer.new.writer) (take len row) whole c.in-Line.ensures.2 command c.answer.ensures.err

pub returns-in_ok-answer_unknown-in-TooLong-clause-err : goal.returns-in_ok-answer_unknown-in-TooLong-clause-err
returns-in_ok-answer_unknown-in-TooLong-clause-err g c =
    let row = c.read_line.new.row in
    let size : length row ≡ 65 = search rules in
    let had = g.R.Read.remaining c.args.reader.now in
    let held = g.W.Write.contents c.args.writer.now in (
      had,
      held,
      row,
      Serves-none (g.O.Operator.calls c.args.operator.now) had held,
      (c.in-TooLong.ensures.0, size),
      c.in-TooLong.ensures.1,
      c.in_ok-answer_unknown-in-TooLong.ensures.ok,
    )

pub returns-in_err-answer_unknown-in-TooLong-clause-err : goal.returns-in_err-answer_unknown-in-TooLong-clause-err
returns-in_err-answer_unknown-in-TooLong-clause-err g c =
    let row = c.read_line.new.row in
    let size : length row ≡ 65 = search rules in
    let failed = c.in_err-answer_unknown-in-TooLong in
    let p = err_from_is_err_and c.from_residual.result c.from_residual.ensures.1 in
    rw (p.1, p.2) (too_long_failed failed.field-0.0 (g.O.Operator.calls c.args.operator.now) (g.R.Read.remaining c.args.reader.now)
    (g.R.Read.remaining c.read_line.new.reader) (g.W.Write.contents c.args.writer.now) (g.W.Write.contents c.answer_unknown.new.writer) row
    (c.in-TooLong.ensures.0, size) c.in-TooLong.ensures.1 failed.ensures.err.0 failed.ensures.err.1)

pub returns-in-Nothing-clause-err : goal.returns-in-Nothing-clause-err
returns-in-Nothing-clause-err g c = (
  nothing_read (g.O.Operator.calls c.args.operator.now) (g.R.Read.remaining c.args.reader.now) (g.R.Read.remaining c.read_line.new.reader)
      (g.W.Write.contents c.args.writer.now) c.in-Nothing.ensures.0,
  c.in-Nothing.ensures.1,
)

pub returns-in-Part-clause-err : goal.returns-in-Part-clause-err
returns-in-Part-clause-err g c =
    let had = g.R.Read.remaining c.args.reader.now in
    let part = c.in-Part.ensures in (
      had,
      part.0,
      Serves-none (g.O.Operator.calls c.args.operator.now) had (g.W.Write.contents c.args.writer.now),
      part.1,
      part.2,
      part.4,
      part.5,
    )

pub returns-in-Fault-clause-err : goal.returns-in-Fault-clause-err
returns-in-Fault-clause-err g c =
    let had = g.R.Read.remaining c.args.reader.now in
    let part = c.in-Fault.ensures in (
      had,
      part.0,
      Serves-none (g.O.Operator.calls c.args.operator.now) had (g.W.Write.contents c.args.writer.now),
      part.1,
      part.2,
      part.3,
    )
