use Rattle.std.proofs.Common.{Ok, ap}
use Rattle.batch.proofs.HeaderTaken.{ReadsBatch-day, header_taken}
use Rattle.batch.proofs.InputLemmas.{EndsReading-before}
use Rattle.batch.proofs.reading.read_batch.Goals as goal

pub returns-in-Ok-read-clause-read : goal.returns-in-Ok-read-clause-read
returns-in-Ok-read-clause-read g c =
    let remaining = g.B.Read.remaining in
    let header = header_taken (remaining c.args.input.now.left) (remaining c.next_line.new.self.left)
    (remaining c.next_line-2.new.self.left) _ _ _ _ _ c.next_line.new.line.items c.next_line-2.new.line.items
    c.in_ok-next_line.ensures.took (λ e. c.in_ok-next_line.ensures.end (ap Ok e)) c.in_ok-next_line-2.ensures.took
    (λ e. c.in_ok-next_line-2.ensures.end (ap Ok e)) in
    let answered = rw c.in-Ok-read.is at c.read_day-day.ensures.day in
    ReadsBatch-day c.args.matrix _ _ _ _ _ _ c.in-Ok.listing c.read_day-day.result.0 header
    (rw (c.deref.ensures.value, c.deref-2.ensures.value) at c.in-Ok.ensures.ok) (rw c.in-Ok-new.ensures.ok at answered)

pub returns-in-Ok-clause-err : goal.returns-in-Ok-clause-err
returns-in-Ok-clause-err g c =
    EndsReading-before _ _ _ _ _ _ c.in_ok-next_line.ensures.took
    (EndsReading-before _ _ _ _ _ _ c.in_ok-next_line-2.ensures.took (rw c.in-Err-read.is at c.read_day-day.ensures.err))
