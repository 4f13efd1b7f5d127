-- Follows texts that are written whole, in part, or not at all; and the texts of no message.
use Rattle.std.proofs.Common.{◌≡◌, ◌≢◌, ℕ, List, append-nil, inl, inr, refl, Option, Some, None, Result, Ok, Err, sym, ap, ◌∙◌}
use Rattle.std.specs.Prelude.{◌⊎◌, IsOk, OnErr}
use Rattle.std.proofs.Common.{◌==◌, length, true}
use Rattle.std.proofs.lemmas.Bool.{false≢true}
use Rattle.std.proofs.lemmas.Bool.{eqb-true}
use Rattle.std.proofs.lemmas.List.{nil_from_length}
use Rattle.std.specs.Io.KnownBytes.{Appends, Keeps}
use Rattle.day_report.specs.declared.report_fault.ReportFault.{ReportFault}
use Rattle.day_report.specs.declared.report_fault.ReportFault.TheVariants as report
use Rattle.whole_io.specs.Lemmas.WriteLemmas.{WritesUpTo-none}
use Rattle.whole_io.specs.Writing.{WritesPrefix}
use Rattle.sale_matrix.specs.declared.matrix.Matrix.{Matrix}
use Rattle.csv_days.specs.Explained.{explain_text, explained_head, explained_text}
use Rattle.csv_days.specs.TapeRows.{head_line, rows_text, tape_rows, tape_text, text_from}
use Rattle.csv_days.specs.declared.refusals.Refusals.{Refusals}
use Rattle.csv_days.specs.declared.table_end.TableEnd.{TableEnd}
use Rattle.csv_days.specs.declared.table_end.TableEnd.TheVariants.{Table, Listing, OutOfMemory, WriteFault}
use Rattle.whole_io.specs.declared.writing_fault.WritingFault.{WritingFault}
use Rattle.tape_core.specs.declared.entry.Entry.{Entry}
use Rattle.journal_days.specs.Texts.{messages_in}

-- nothing was written
pub nothing_written : (text : List ℕ) (old new : Option (List ℕ)) → new ≡ old → WritesPrefix text old new
nothing_written text old new same = rw same (text, WritesUpTo-none text old)

-- ## Texts that are written or not

-- what was written stays in the writer
pub written_kept : (text : List ℕ) (old now new : Option (List ℕ)) → Appends old now text → Keeps now new → Appends old new text
written_kept text None now new written kept = tt
written_kept text (Some xs) None new written kept = absurd written
written_kept text (Some xs) (Some ys) None written kept = absurd kept
written_kept text (Some xs) (Some ys) (Some zs) written kept = kept ∙ written

pub on_err : {X E : Type 0} (r : Result X E) (P : Type 0) → P → OnErr r P
on_err (Ok x) P holds = tt
on_err (Err e) P holds = holds

-- a text that was written in part, as far as it was written
pub text_failed : {W : Type 0} (contents : W → Option (List ℕ)) (text : List ℕ) (old new : W) (run : Result Refusals TableEnd)
    (result : Result Unit WritingFault) → (IsOk run → IsOk result) → (run ≢ Err WriteFault → run ≢ Err OutOfMemory → OnErr run (new ≡ old))
    → ((run ≡ Err WriteFault) ⊎ (run ≡ Err OutOfMemory) → WritesPrefix text (contents old) (contents new))
    → OnErr result (WritesPrefix text (contents old) (contents new))
text_failed contents text old new (Ok refusals) (Ok done) ok silent part = tt
text_failed contents text old new (Ok refusals) (Err fault) ok silent part = absurd (false≢true (ok refl))
text_failed contents text old new (Err WriteFault) result ok silent part = on_err result _ (part (inl refl))
text_failed contents text old new (Err OutOfMemory) result ok silent part = on_err result _ (part (inr refl))
text_failed contents text old new (Err (Table fault)) result ok silent part =
    on_err result _ (nothing_written text (contents old) (contents new) (ap contents (silent (λ e. cc) (λ e. cc))))
text_failed contents text old new (Err (Listing fault)) result ok silent part =
    on_err result _ (nothing_written text (contents old) (contents new) (ap contents (silent (λ e. cc) (λ e. cc))))

-- a report that was not written whole, as far as it was written
pub report_failed : {W : Type 0} (contents : W → Option (List ℕ)) (text : List ℕ) (old new : W) (f : ReportFault)
    → (f ≡ report.OutOfMemory) ⊎ (f ≡ report.WriteFault) → (f ≡ report.OutOfMemory → new ≡ old)
    → (f ≡ report.WriteFault → WritesPrefix text (contents old) (contents new)) → WritesPrefix text (contents old) (contents new)
report_failed contents text old new f (inl full) silent part = nothing_written text (contents old) (contents new) (ap contents (silent full))
report_failed contents text old new f (inr failed) silent part = part failed

-- ## Texts of no message

-- the readable tape of no message
pub tape_of_none : (matrix : Matrix) (es : List Entry) → (length es == 0) ≡ true → head_line ≡ tape_text matrix (messages_in es)
unfolding text_from tape_rows rows_text
tape_of_none matrix es none = rw (nil_from_length es (eqb-true _ _ none)) (sym (append-nil head_line))

-- the explained text of no report is the line of its columns' names
pub explained_head_of_none : (matrix : Matrix) (es : List Entry) → (length es == 0) ≡ true → explained_head ≡ explain_text matrix (messages_in es)
unfolding explained_text
explained_head_of_none matrix es none = rw (nil_from_length es (eqb-true _ _ none)) (sym (append-nil explained_head))
