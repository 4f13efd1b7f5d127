-- Lemmas about how a run ended and what it wrote.
use Rattle.std.proofs.Common.{◌≡◌, ◌≢◌, ◌⊎◌, ◌&&◌, ℕ, arith, true, false, if◌then◌else◌, Bool, List, Option, Result, Some, None, Ok, Err, IfSome, IfOk, IfErr, OnErr, inl, inr, refl}
use Rattle.sale_matrix.specs.declared.matrix.Matrix.{Matrix}
use Rattle.reports.specs.declared.message.Message.{Message}
use Rattle.csv_days.specs.Checks.{IsCheckEnd, WritesCheck}
use Rattle.csv_days.specs.TableEnds.{IsTableEnd, WritesTable}
use Rattle.csv_days.specs.declared.refusals.Refusals.{Refusals}
use Rattle.csv_days.specs.declared.table_end.TableEnd.{TableEnd}
use Rattle.csv_days.specs.declared.table_end.TableEnd.TheVariants.{Table, Listing, OutOfMemory, WriteFault}
use Rattle.csv_days.specs.declared.day_text.DayText.{DayText}
use Rattle.csv_days.specs.declared.day_text.DayText.TheVariants.{Explanation, Report, Tape}
use Rattle.desk_words.specs.Program.{Comes, ComesToCheck, refuses_any, run_status}

-- a run of a table, by what it wrote and how it ended
pub comes_of : (text : Matrix → List Message → List ℕ) (matrix : Matrix) (input old new : Option (List ℕ)) (run : Result Refusals TableEnd)
    → IfSome input (λ bytes. IfOk run (λ refusals. WritesTable text matrix bytes refusals old new)) → IfSome input (λ bytes. IfErr run (IsTableEnd bytes))
    → IfSome input (λ bytes. Comes text matrix bytes run old new)
comes_of text matrix None old new run written ends = tt
comes_of text matrix (Some bytes) old new (Ok refusals) written ends = written
comes_of text matrix (Some bytes) old new (Err end) written ends = ends

-- what holds on an error holds if the run ended by one
at_error : {X End : Type 0} (run : Result X End) (end : End) (P : Type 0) → run ≡ Err end → OnErr run P → P
at_error (Ok done) end P is holds = absurd (cc is)
at_error (Err other) end P is holds = holds

-- an end that is neither of two
pub silent_else : {X End : Type 0} (fault full : End) (run : Result X End) (P : Type 0) → (run ≢ Err fault → run ≢ Err full → OnErr run P)
    → (end : End) → run ≡ Err end → end ≢ fault → end ≢ full → P
silent_else fault full run P silent end is other_fault other_full =
    at_error run end P is (silent (λ e. other_fault (cc (is, e))) (λ e. other_full (cc (is, e))))

-- a part of a day's text is written if a write fails, and if memory runs out, but of a report nothing then
pub part_day : (text : DayText) (run : Result Refusals TableEnd) (P Q : Type 0) → (run ≡ Err WriteFault → Q)
    → (text ≢ Report → run ≡ Err OutOfMemory → Q) → (text ≡ Report → run ≡ Err OutOfMemory → P)
    → (run ≡ Err WriteFault) ⊎ (run ≡ Err OutOfMemory) → P ⊎ Q
part_day text run P Q at_fault other report (inl fault) = inr (at_fault fault)
part_day Report run P Q at_fault other report (inr memory) = inl (report refl memory)
part_day Tape run P Q at_fault other report (inr memory) = inr (other (λ is. cc is) memory)
part_day Explanation run P Q at_fault other report (inr memory) = inr (other (λ is. cc is) memory)

-- a part was written, as of a known input
pub part_known : (input : Option (List ℕ)) (K : Type 0) (Q : List ℕ → Type 0) → IfSome input Q → IfSome input (λ bytes. K ⊎ Q bytes)
part_known None K Q part = tt
part_known (Some bytes) K Q part = inr part

-- a part was written if a write failed, and a part or nothing if memory ran out
pub part_decoded : {X End : Type 0} (fault full : End) (run : Result X End) (input : Option (List ℕ)) (K : Type 0) (Q : List ℕ → Type 0)
    → (run ≡ Err fault → IfSome input Q) → (run ≡ Err full → IfSome input (λ bytes. K ⊎ Q bytes))
    → (run ≡ Err fault) ⊎ (run ≡ Err full) → IfSome input (λ bytes. K ⊎ Q bytes)
part_decoded fault full run input K Q at_fault at_full (inl e) = part_known input K Q (at_fault e)
part_decoded fault full run input K Q at_fault at_full (inr e) = at_full e

-- a check of a table, by what it wrote and how it ended
pub check_comes : (input old new : Option (List ℕ)) (run : Result Bool TableEnd)
    → IfSome input (λ bytes. IfOk run (λ faultless. WritesCheck bytes faultless old new)) → IfErr run IsCheckEnd
    → IfSome input (λ bytes. ComesToCheck bytes run old new)
check_comes None old new run written ends = tt
check_comes (Some bytes) old new (Ok faultless) written ends = written
check_comes (Some bytes) old new (Err end) written ends = ends

-- an end that is no failed write
pub silent_check : (run : Result Bool TableEnd) (P : Type 0) → (run ≢ Err WriteFault → OnErr run P)
    → (end : TableEnd) → run ≡ Err end → end ≢ WriteFault → P
silent_check run P silent end is written = at_error run end P is (silent (λ e. written (cc (is, e))))

-- of a report nothing is written if memory runs out
pub report_at_five : (strict : Bool) (run : Result Refusals TableEnd) (P : Type 0) → (run ≢ Err WriteFault → run ≢ Err OutOfMemory → OnErr run P)
    → (run ≡ Err OutOfMemory → P) → run_status strict run ≡ 5 → P
report_at_five strict (Ok refusals) P silent memory five = by (strict && refuses_any refusals) five
  where
    by : (b : Bool) → ◌≡◌ {A = ℕ} (if b then 2 else 0) 5 → P
    by true two = absurd (omega (arith, two))
    by false none = absurd (omega (arith, none))
report_at_five strict (Err WriteFault) P silent memory five = absurd (omega (arith, five))
report_at_five strict (Err OutOfMemory) P silent memory five = memory refl
report_at_five strict (Err (Table fault)) P silent memory five = silent (λ e. cc e) (λ e. cc e)
report_at_five strict (Err (Listing fault)) P silent memory five = silent (λ e. cc e) (λ e. cc e)
