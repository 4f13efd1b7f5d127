use Rattle.std.proofs.Common.{ap, arith, length}
use Rattle.csv_days.specs.TapeRows.{tape_text}
use Rattle.csv_days.proofs.EndLemmas.{table_part, table_written}
use Rattle.csv_days.proofs.tape.tape_over.Goals as goal

pub write_tape-requires : goal.write_tape-requires
write_tape-requires g c = omega (arith, ap length c.deref.ensures.value, c.in_ok-messages.messages.ok.0, c.in_ok-messages.messages.ok.1, c.in_ok-messages.messages.small)

pub returns-clause-written : goal.returns-clause-written
returns-clause-written g c =
    table_written tape_text c.args.matrix (g.R.Read.remaining c.args.reader) c.in_ok-messages.messages.items c.deref.result.now c.write_tape.result
    (g.W.Write.contents c.args.writer.now) (g.W.Write.contents c.write_tape.new.writer) c.deref.ensures.value c.in_ok-messages.ensures.messages
    c.write_tape.ensures.refused c.write_tape.ensures.stale c.write_tape.ensures.written

pub returns-clause-prefix : goal.returns-clause-prefix
returns-clause-prefix g c = λ ended.
    table_part tape_text c.args.matrix (g.R.Read.remaining c.args.reader) c.in_ok-messages.messages.items c.deref.result.now
    (g.W.Write.contents c.args.writer.now) (g.W.Write.contents c.write_tape.new.writer) c.deref.ensures.value c.in_ok-messages.ensures.messages
    (c.write_tape.ensures.prefix ended)
