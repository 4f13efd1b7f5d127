use Rattle.std.proofs.Common.{rules}
use Rattle.batch.proofs.InputLemmas.{EndsReading-line, TakesLines-counted, taken-too_large}
use Rattle.batch.proofs.input.Input.next_line.Goals as goal

pub returns-clause-took : goal.returns-clause-took
returns-clause-took g c =
    let remaining = g.B.Read.remaining in
    rw c.in_ok-count.ensures.left
    (TakesLines-counted (remaining c.args.self.now.left) (remaining c.take_line.new.reader) c.args.self.now.taken c.count.new.self.taken
    c.in_ok-len.len _ c.in_ok-len.ensures.took c.in_ok-count.ensures.taken)

pub returns-in_err-len-clause-err : goal.returns-in_err-len-clause-err
returns-in_err-len-clause-err g c =
    let line = EndsReading-line (g.B.Read.remaining c.args.self.now.left) c.args.self.now.taken c.in_err-len.field-0.0 in
    search (rules, line)

pub returns-in_err-count-clause-err : goal.returns-in_err-count-clause-err
returns-in_err-count-clause-err g c =
    let over = taken-too_large (g.B.Read.remaining c.args.self.now.left) (g.B.Read.remaining c.take_line.new.reader) _ c.in_ok-len.len _ _
    c.in_ok-len.ensures.took c.in_err-count.ensures.err in
    search (rules, over)
