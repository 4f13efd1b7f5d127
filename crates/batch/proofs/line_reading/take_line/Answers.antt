use Rattle.std.proofs.Common.{◌≡◌, Ok, arith, rules}
use Rattle.std.proofs.lemmas.Result.{IfOk-at_ok}
use Rattle.batch.proofs.InputLemmas.{TakesLines-through}
use Rattle.batch.proofs.line_reading.take_line.Goals as goal

pub returns-clause-took : goal.returns-clause-took
returns-clause-took g c =
    let remaining = g.B.Read.remaining in
    let taken = c.read_until-taken in
    let read : taken.result ≡ Ok c.in_ok-len.len = search rules in
    TakesLines-through (remaining c.args.reader.now) (remaining taken.new.self) c.clear.new.self.items taken.new.buf.items
    c.drop_line_feed.new.line.items c.in_ok-len.len c.clear.ensures.items (IfOk-at_ok _ read taken.ensures.bytes) (IfOk-at_ok _ read taken.ensures.rest)
    (omega (arith, IfOk-at_ok _ read taken.ensures.ok, taken.new.buf.ok, c.clear.new.self.ok)) c.drop_line_feed.ensures
