use Rattle.std.proofs.Common.{refl}
use Rattle.csv_days.specs.Days.{day_text}
use Rattle.csv_days.specs.Strict.{strictly}
use Rattle.csv_days.proofs.EndLemmas.{messages_end, table_part}
use Rattle.csv_days.proofs.StrictLemmas.{table_listed, table_told}
use Rattle.csv_days.proofs.strict.report_strict_over.Goals as goal

pub write_report_if_admitted-requires : goal.write_report_if_admitted-requires
write_report_if_admitted-requires g c =
    let (messages, table, had) = c.in_ok-day.ensures.day in
    record { ending = (c.args.matrix, messages, had) }

pub returns-clause-written : goal.returns-clause-written
returns-clause-written g c =
    let (messages, table, had) = c.in_ok-day.ensures.day in
    table_told day_text c.args.matrix (g.R.Read.remaining c.args.reader) messages messages c.write_report_if_admitted.result
    (g.W.Write.contents c.args.writer.now) (g.W.Write.contents c.write_report_if_admitted.new.writer) refl table
    (c.write_report_if_admitted.ensures.told c.args.matrix messages had) (c.write_report_if_admitted.ensures.written c.args.matrix messages had)

pub returns-clause-listed : goal.returns-clause-listed
returns-clause-listed g c =
    let (messages, table, had) = c.in_ok-day.ensures.day in
    table_listed c.args.matrix (g.R.Read.remaining c.args.reader) messages messages c.write_report_if_admitted.result refl table
    (c.write_report_if_admitted.ensures.told c.args.matrix messages had)

pub returns-clause-prefix : goal.returns-clause-prefix
returns-clause-prefix g c = λ ended.
    let (messages, table, had) = c.in_ok-day.ensures.day in
    table_part (strictly day_text) c.args.matrix (g.R.Read.remaining c.args.reader) messages messages
    (g.W.Write.contents c.args.writer.now) (g.W.Write.contents c.write_report_if_admitted.new.writer) refl table
    (c.write_report_if_admitted.ensures.prefix ended c.args.matrix messages had)

pub returns-clause-end : goal.returns-clause-end
returns-clause-end g c =
    let (messages, table, had) = c.in_ok-day.ensures.day in
    messages_end (g.R.Read.remaining c.args.reader) messages c.write_report_if_admitted.result table (c.write_report_if_admitted.ensures.end c.args.matrix messages had)
