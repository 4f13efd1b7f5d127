use Rattle.std.proofs.Common.{List, OnOk, subst, sym, ℕ}
use Rattle.std.specs.Io.KnownBytes.{Appends}
use Rattle.std.proofs.lemmas.Result.{err_from_is_err_and}
use Rattle.csv.proofs.WriteFacts.{appends-none}
use Rattle.whole_io.specs.Writing.{WritesPrefix}
use Rattle.tape_core.specs.Answers.{answers}
use Rattle.csv_days.specs.Days.{day_text, first_tape}
use Rattle.csv_days.specs.Refusals.{RefusesNone}
use Rattle.csv_days.proofs.StrictLemmas.{none_by, strictly-all, strictly-some, told_by}
use Rattle.csv_days.proofs.strict.write_report_if_admitted.Goals as goal

pub returns-in_err-refusals-clause-end : goal.returns-in_err-refusals-clause-end
returns-in_err-refusals-clause-end g c = λ matrix messages had.
    let p = err_from_is_err_and c.from_residual.result c.from_residual.ensures.1 in
    rw (p.1, p.2) (c.in_err-refusals.ensures.end matrix messages had)

pub returns-then-is_empty-clause-told : goal.returns-then-is_empty-clause-told
returns-then-is_empty-clause-told g c = λ matrix messages had.
    told_by matrix messages c.write_report_of.result (c.in_ok-refusals.ensures.told matrix messages had).listed
    (c.write_report_of.ensures.refused matrix messages had) (c.write_report_of.ensures.stale matrix messages had)

pub returns-then-is_empty-clause-written : goal.returns-then-is_empty-clause-written
returns-then-is_empty-clause-written g c = λ matrix messages had.
    subst (λ (l : List ℕ). OnOk c.write_report_of.result (Appends (g.W.Write.contents c.args.writer.now) (g.W.Write.contents c.write_report_of.new.writer) l))
    (sym (strictly-all day_text matrix messages c.in_ok-refusals.refusals (c.in_ok-refusals.ensures.told matrix messages had).refused
    (c.is_empty.ensures.empty.0 c.if-is_empty.true)))
    (c.write_report_of.ensures.written matrix messages had)

pub returns-then-is_empty-clause-unwritten : goal.returns-then-is_empty-clause-unwritten
returns-then-is_empty-clause-unwritten g c =
    let (matrix, messages, had) = c.requires.ending in
    none_by (answers (first_tape matrix messages) messages) c.in_ok-refusals.refusals c.write_report_of.result _ (c.in_ok-refusals.ensures.told matrix messages had).refused
    (c.is_empty.ensures.empty.0 c.if-is_empty.true) (c.write_report_of.ensures.refused matrix messages had)

pub returns-then-is_empty-clause-prefix : goal.returns-then-is_empty-clause-prefix
returns-then-is_empty-clause-prefix g c = λ ended matrix messages had.
    subst (λ (l : List ℕ). WritesPrefix l (g.W.Write.contents c.args.writer.now) (g.W.Write.contents c.write_report_of.new.writer))
    (sym (strictly-all day_text matrix messages c.in_ok-refusals.refusals (c.in_ok-refusals.ensures.told matrix messages had).refused
    (c.is_empty.ensures.empty.0 c.if-is_empty.true)))
    (c.write_report_of.ensures.prefix ended matrix messages had)

pub returns-else-is_empty-clause-written : goal.returns-else-is_empty-clause-written
returns-else-is_empty-clause-written g c = λ matrix messages had.
    let some : RefusesNone c.in_ok-refusals.refusals → ⊥ = λ none. absurd (cc (c.is_empty.ensures.empty.1 none, c.if-is_empty.false)) in
    subst (Appends (g.W.Write.contents c.args.writer.now) (g.W.Write.contents c.args.writer.now))
    (sym (strictly-some day_text matrix messages c.in_ok-refusals.refusals (c.in_ok-refusals.ensures.told matrix messages had).refused some))
    (appends-none (g.W.Write.contents c.args.writer.now))
