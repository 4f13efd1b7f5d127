use Rattle.std.proofs.Common.{refl}
use Rattle.csv_days.specs.Days.{day_text}
use Rattle.csv_days.proofs.EndLemmas.{messages_end, table_part, table_written}
use Rattle.csv_days.proofs.report.report_over.Goals as goal

pub write_report_of-requires : goal.write_report_of-requires
write_report_of-requires g c =
    let (messages, table, had) = c.in_ok-day.ensures.day in
    record { ending = (c.args.matrix, messages, had) }

pub returns-clause-written : goal.returns-clause-written
returns-clause-written g c =
    let (messages, table, had) = c.in_ok-day.ensures.day in
    table_written day_text c.args.matrix (g.R.Read.remaining c.args.reader) messages messages c.write_report_of.result
    (g.W.Write.contents c.args.writer.now) (g.W.Write.contents c.write_report_of.new.writer) refl table
    (c.write_report_of.ensures.refused c.args.matrix messages had) (c.write_report_of.ensures.stale c.args.matrix messages had)
    (c.write_report_of.ensures.written c.args.matrix messages had)

pub returns-clause-prefix : goal.returns-clause-prefix
returns-clause-prefix g c = λ ended.
    let (messages, table, had) = c.in_ok-day.ensures.day in
    table_part day_text c.args.matrix (g.R.Read.remaining c.args.reader) messages messages
    (g.W.Write.contents c.args.writer.now) (g.W.Write.contents c.write_report_of.new.writer) refl table
    (c.write_report_of.ensures.prefix ended c.args.matrix messages had)

pub returns-clause-end : goal.returns-clause-end
returns-clause-end g c =
    let (messages, table, had) = c.in_ok-day.ensures.day in
    messages_end (g.R.Read.remaining c.args.reader) messages c.write_report_of.result table (c.write_report_of.ensures.end c.args.matrix messages had)
