use Rattle.std.proofs.Common.{ap, arith, length}
use Rattle.csv_days.specs.Explained.{explain_text}
use Rattle.csv_days.proofs.EndLemmas.{table_part, table_written}
use Rattle.csv_days.proofs.explain.explain_over.Goals as goal

pub write_explained-requires : goal.write_explained-requires
write_explained-requires g c = omega (arith, ap length c.deref.ensures.value, c.in_ok-messages.messages.ok.0, c.in_ok-messages.messages.ok.1, c.in_ok-messages.messages.small)

pub returns-clause-written : goal.returns-clause-written
returns-clause-written g c =
    table_written explain_text c.args.matrix (g.R.Read.remaining c.args.reader) c.in_ok-messages.messages.items c.deref.result.now c.write_explained.result
    (g.W.Write.contents c.args.writer.now) (g.W.Write.contents c.write_explained.new.writer) c.deref.ensures.value c.in_ok-messages.ensures.messages
    c.write_explained.ensures.refused c.write_explained.ensures.stale c.write_explained.ensures.written

pub returns-clause-prefix : goal.returns-clause-prefix
returns-clause-prefix g c = λ ended.
    table_part explain_text c.args.matrix (g.R.Read.remaining c.args.reader) c.in_ok-messages.messages.items c.deref.result.now
    (g.W.Write.contents c.args.writer.now) (g.W.Write.contents c.write_explained.new.writer) c.deref.ensures.value c.in_ok-messages.ensures.messages
    (c.write_explained.ensures.prefix ended)
