use Rattle.std.proofs.Common.{◌∙◌, ap, refl, subst, sym, Err}
use Rattle.std.specs.Io.KnownBytes.{Appends}
use Rattle.day_report.specs.ReportText.{report_text}
use Rattle.day_report.specs.Rows.{report_rows}
use Rattle.day_report.specs.declared.row.Row.{Row}
use Rattle.std.specs.Prelude.{List}
use Rattle.whole_io.specs.Lemmas.WriteLemmas.{WritesPrefix-kept, WritesPrefix-whole}
use Rattle.whole_io.specs.Writing.{WritesPrefix}
use Rattle.journal_days.specs.Days.{unlimited}
use Rattle.journal_days.proofs.TextLemmas.{nothing_written, on_err, report_failed, written_kept}
use Rattle.journal_days.proofs.report.write_journal_report.Goals as goal

pub returns-in_err-end-clause-prefix : goal.returns-in_err-end-clause-prefix
returns-in_err-end-clause-prefix g c = on_err _ _ (nothing_written _ _ _ refl)

pub returns-in_err-rows-clause-prefix : goal.returns-in_err-rows-clause-prefix
returns-in_err-rows-clause-prefix g c = on_err _ _ (nothing_written _ _ _ refl)

pub returns-in_err-write_report-clause-prefix : goal.returns-in_err-write_report-clause-prefix
returns-in_err-write_report-clause-prefix g c =
    let t = c.args.day.now.tape in
    let rows = c.deref.ensures.value ∙ c.in_ok-rows.ensures.rows (unlimited t) c.in_ok-end.ensures.kept (sym c.listing.ensures.listing) in
    on_err _ _
    (report_failed g.W.Write.contents (report_text (report_rows t)) c.args.writer.now c.write_report.new.writer c.in_err-write_report.field-0.0
    c.in_err-write_report.ensures.faults
    (λ full. c.in_err-write_report.ensures.memory (ap (λ f. Err f) full))
    (λ failed. subst (λ (rs : List Row). WritesPrefix (report_text rs) (g.W.Write.contents c.args.writer.now) (g.W.Write.contents c.write_report.new.writer)) rows
    (c.in_err-write_report.ensures.prefix (ap (λ f. Err f) failed))))

pub returns-in_err-flush-clause-prefix : goal.returns-in_err-flush-clause-prefix
returns-in_err-flush-clause-prefix g c =
    let rows = c.deref.ensures.value ∙ c.in_ok-rows.ensures.rows (unlimited c.args.day.now.tape) c.in_ok-end.ensures.kept (sym c.listing.ensures.listing) in
    on_err _ _
    (WritesPrefix-kept (report_text (report_rows c.args.day.now.tape)) _ _ _
    (WritesPrefix-whole _ _ _
    (subst (λ (rs : List Row). Appends (g.W.Write.contents c.args.writer.now) (g.W.Write.contents c.write_report.new.writer) (report_text rs)) rows
    c.in_ok-write_report.ensures.written))
    c.flush.ensures.kept)

pub returns-clause-written : goal.returns-clause-written
returns-clause-written g c =
    let rows = c.deref.ensures.value ∙ c.in_ok-rows.ensures.rows (unlimited c.args.day.now.tape) c.in_ok-end.ensures.kept (sym c.listing.ensures.listing) in
    written_kept (report_text (report_rows c.args.day.now.tape)) _ _ _
    (subst (λ (rs : List Row). Appends (g.W.Write.contents c.args.writer.now) (g.W.Write.contents c.write_report.new.writer) (report_text rs)) rows
    c.in_ok-write_report.ensures.written)
    c.flush.ensures.kept
