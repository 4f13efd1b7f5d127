use Rattle.std.proofs.Common.{ap, arith, length}
use Rattle.csv_days.specs.DayTexts.{text_named}
use Rattle.csv_days.specs.Strict.{strictly}
use Rattle.csv_days.proofs.EndLemmas.{table_part}
use Rattle.csv_days.proofs.StrictLemmas.{table_listed, table_told}
use Rattle.csv_days.proofs.strict.strict_over.Goals as goal

pub write_if_admitted-requires : goal.write_if_admitted-requires
write_if_admitted-requires g c = omega (arith, ap length c.deref.ensures.value, c.in_ok-messages.messages.ok.0, c.in_ok-messages.messages.ok.1, c.in_ok-messages.messages.small)

pub returns-clause-written : goal.returns-clause-written
returns-clause-written g c =
    table_told (text_named c.args.text) c.args.matrix (g.R.Read.remaining c.args.reader) c.in_ok-messages.messages.items c.deref.result.now c.write_if_admitted.result
    (g.W.Write.contents c.args.writer.now) (g.W.Write.contents c.write_if_admitted.new.writer) c.deref.ensures.value c.in_ok-messages.ensures.messages
    c.write_if_admitted.ensures.told c.write_if_admitted.ensures.written

pub returns-clause-listed : goal.returns-clause-listed
returns-clause-listed g c =
    table_listed c.args.matrix (g.R.Read.remaining c.args.reader) c.in_ok-messages.messages.items c.deref.result.now c.write_if_admitted.result c.deref.ensures.value
    c.in_ok-messages.ensures.messages c.write_if_admitted.ensures.told

pub returns-clause-prefix : goal.returns-clause-prefix
returns-clause-prefix g c = λ ended.
    table_part (strictly (text_named c.args.text)) c.args.matrix (g.R.Read.remaining c.args.reader) c.in_ok-messages.messages.items c.deref.result.now
    (g.W.Write.contents c.args.writer.now) (g.W.Write.contents c.write_if_admitted.new.writer) c.deref.ensures.value c.in_ok-messages.ensures.messages
    (c.write_if_admitted.ensures.prefix ended)
