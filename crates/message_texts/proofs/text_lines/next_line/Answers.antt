use Rattle.std.proofs.Common.{rules}
use Rattle.message_texts.proofs.TakenLines.{line_end-is, taken_uncounted}
use Rattle.message_texts.proofs.text_lines.next_line.Goals as goal

pub returns-clause-took : goal.returns-clause-took
returns-clause-took g c =
    let remaining = g.B.Read.remaining in
    taken_uncounted (remaining c.args.reader.now) (remaining c.take_line.new.reader) c.in_ok-len.len _ c.in_ok-len.ensures.took

pub returns-in_err-len-clause-fault : goal.returns-in_err-len-clause-fault
returns-in_err-len-clause-fault g c =
    let is = line_end-is c.in_err-len.field-0.0 in
    search (rules, is)
