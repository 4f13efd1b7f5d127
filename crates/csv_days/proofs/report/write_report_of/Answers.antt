use Rattle.std.proofs.Common.{◌≡◌, ◌∙◌, Err, ap, sym}
use Rattle.std.proofs.KnownBytes.{Appends-kept}
use Rattle.std.proofs.lemmas.Result.{err_from_is_err_and}
use Rattle.whole_io.specs.Lemmas.WriteLemmas.{WritesPrefix-kept, WritesPrefix-whole}
use Rattle.csv_days.specs.Days.{day_text, tape_of}
use Rattle.csv_days.specs.declared.table_end.TableEnd.{TableEnd}
use Rattle.csv_days.specs.declared.table_end.TableEnd.TheVariants.{WriteFault}
use Rattle.csv_days.proofs.EndDayLemmas.{HasEnded-listing, HasEnded-refusals, HasEnded-stale, HasEnded-tape, IsKept-ending}
use Rattle.csv_days.proofs.EndLemmas.{any_ok, flushed_end, flushed_refusals, flushed_silent, flushed_stale, same_end}
use Rattle.csv_days.proofs.report.write_report_of.Goals as goal

pub returns-in_err-listing-clause-end : goal.returns-in_err-listing-clause-end
returns-in_err-listing-clause-end g c = λ matrix messages had.
    let p = err_from_is_err_and c.from_residual.result c.from_residual.ensures.1 in
    rw (p.1, p.2) (c.in_err-listing.ensures.fault messages had.names)

pub write_end_report-requires : goal.write_end_report-requires
write_end_report-requires g c = record { kept = IsKept-ending c.args.day.now c.requires.ending }

pub returns-clause-refused : goal.returns-clause-refused
returns-clause-refused g c = λ matrix messages had.
    flushed_refusals c.flushed.result _ _ c.flushed.ensures.ok (HasEnded-refusals matrix messages c.args.day.now had)

pub returns-clause-stale : goal.returns-clause-stale
returns-clause-stale g c = λ matrix messages had.
    flushed_stale c.flushed.result _ _ c.flushed.ensures.ok (HasEnded-stale matrix messages c.args.day.now had)

pub returns-clause-written : goal.returns-clause-written
returns-clause-written g c = λ matrix messages had.
    let old = g.W.Write.contents c.args.writer.now in
    let mid = g.W.Write.contents c.write_end_report.new.writer in
    any_ok c.flushed.result _
    (Appends-kept old mid _ (day_text matrix messages)
    (c.in_ok-write_end_report.ensures.written (tape_of matrix messages) (HasEnded-tape matrix messages c.args.day.now had)
    (HasEnded-listing matrix messages c.args.day.now had _ (c.in_ok-listing.ensures.names messages had.names))) c.flushed.ensures.kept)

pub returns-clause-end : goal.returns-clause-end
returns-clause-end g c = λ matrix messages had. flushed_end c.flushed.result messages c.flushed.ensures.err

pub returns-clause-silent : goal.returns-clause-silent
returns-clause-silent g c = flushed_silent c.flushed.result _ c.flushed.ensures.err

pub returns-clause-prefix : goal.returns-clause-prefix
returns-clause-prefix g c = λ _ matrix messages had.
    let old = g.W.Write.contents c.args.writer.now in
    let mid = g.W.Write.contents c.write_end_report.new.writer in
    let text = day_text matrix messages in
    WritesPrefix-kept text old mid _
    (WritesPrefix-whole text old mid
    (c.in_ok-write_end_report.ensures.written (tape_of matrix messages) (HasEnded-tape matrix messages c.args.day.now had)
    (HasEnded-listing matrix messages c.args.day.now had _ (c.in_ok-listing.ensures.names messages had.names)))) c.flushed.ensures.kept

pub returns-in_err-write_end_report-clause-prefix : goal.returns-in_err-write_end_report-clause-prefix
returns-in_err-write_end_report-clause-prefix g c = λ ended matrix messages had.
    let p = err_from_is_err_and c.from_residual-in_err-write_end_report.result c.from_residual-in_err-write_end_report.ensures.1 in
    let failed : c.in_err-write_end_report.field-0.0 ≡ WriteFault = sym p.2 ∙ same_end p.0 WriteFault (sym p.1 ∙ ended) in
    c.in_err-write_end_report.ensures.prefix (ap (λ (e : TableEnd). Err e) failed) (tape_of matrix messages) (HasEnded-tape matrix messages c.args.day.now had)
    (HasEnded-listing matrix messages c.args.day.now had _ (c.in_ok-listing.ensures.names messages had.names))
