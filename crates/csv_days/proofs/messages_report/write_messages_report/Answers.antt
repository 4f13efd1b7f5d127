use Rattle.std.proofs.Common.{[]}
use Rattle.csv_days.proofs.messages_report.write_messages_report.Goals as goal

pub write_report_of-requires : goal.write_report_of-requires
write_report_of-requires g c =
    record { ending = (c.args.matrix, c.args.messages.now, c.in_ok-answer_all.ensures.more c.args.matrix [] c.new-day.ensures.day) }

pub returns-clause-refused : goal.returns-clause-refused
returns-clause-refused g c =
    c.write_report_of.ensures.refused c.args.matrix c.args.messages.now (c.in_ok-answer_all.ensures.more c.args.matrix [] c.new-day.ensures.day)

pub returns-clause-stale : goal.returns-clause-stale
returns-clause-stale g c =
    c.write_report_of.ensures.stale c.args.matrix c.args.messages.now (c.in_ok-answer_all.ensures.more c.args.matrix [] c.new-day.ensures.day)

pub returns-clause-written : goal.returns-clause-written
returns-clause-written g c =
    c.write_report_of.ensures.written c.args.matrix c.args.messages.now (c.in_ok-answer_all.ensures.more c.args.matrix [] c.new-day.ensures.day)

pub returns-clause-end : goal.returns-clause-end
returns-clause-end g c =
    c.write_report_of.ensures.end c.args.matrix c.args.messages.now (c.in_ok-answer_all.ensures.more c.args.matrix [] c.new-day.ensures.day)

pub returns-clause-prefix : goal.returns-clause-prefix
returns-clause-prefix g c = λ ended.
    c.write_report_of.ensures.prefix ended c.args.matrix c.args.messages.now (c.in_ok-answer_all.ensures.more c.args.matrix [] c.new-day.ensures.day)
