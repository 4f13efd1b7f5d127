use Rattle.std.proofs.Common.{◌∙◌, sym}
use Rattle.csv_days.specs.declared.table_end.TableEnd.TheVariants.{OutOfMemory, WriteFault}
use Rattle.desk_words.proofs.RunLemmas.{comes_of, part_day, report_at_five, silent_else}
use Rattle.csv_days.specs.DayTexts.{text_named}
use Rattle.desk_words.specs.Program.{table_matrix, text_by}
use Rattle.desk_words.proofs.program.run_day.Goals as goal

pub returns-clause-memory : goal.returns-clause-memory
returns-clause-memory g c = λ report five.
    report_at_five c.args.strict c.write_table_text-run.result _ c.write_table_text-run.ensures.silent (c.write_table_text-run.ensures.report report)
    (sym c.end_run.ensures.status ∙ five)

pub returns-clause-runs : goal.returns-clause-runs
returns-clause-runs g c = record {
  run = c.write_table_text-run.result;
  status_is = c.end_run.ensures.status;
  comes = comes_of (text_by c.args.strict (text_named c.args.text)) (table_matrix c.args.asked) (g.R.Read.remaining c.args.reader.now) (g.W.Write.contents c.args.writer.now)
      (g.W.Write.contents c.write_table_text-run.new.writer) c.write_table_text-run.result c.write_table_text-run.ensures.written
      c.write_table_text-run.ensures.end;
  part = part_day c.args.text c.write_table_text-run.result _ _ c.write_table_text-run.ensures.prefix c.write_table_text-run.ensures.memory
      c.write_table_text-run.ensures.report;
  silent = silent_else WriteFault OutOfMemory c.write_table_text-run.result _ c.write_table_text-run.ensures.silent;
  listed = c.write_table_text-run.ensures.listed;
  unwritten = c.write_table_text-run.ensures.unwritten;
  quiet = c.end_run.ensures.quiet;
  said = c.end_run.ensures.said;
}
