-- What a table's text and what it refused come to, whatever is known of the reader.
use Rattle.std.proofs.Common.{◌≡◌, ◌≢◌, ◌∙◌, ℕ, List, Option, Result, Some, None, Ok, Err, IfSome, IfOk, IfErr, OnOk, OnErr, ap, subst, sym}
use Rattle.std.specs.Io.KnownBytes.{Appends}
use Rattle.sale_matrix.specs.declared.matrix.Matrix.{Matrix}
use Rattle.reports.specs.declared.message.Message.{Message}
use Rattle.whole_io.specs.Writing.{WritesPrefix}
use Rattle.tape_core.specs.declared.refusal.Refusal.{Refusal}
use Rattle.csv_messages.specs.Tables.{IsTable}
use Rattle.tape_core.specs.Answers.{answers}
use Rattle.csv_days.specs.Days.{first_tape}
use Rattle.csv_days.specs.Refusals.{AreRefusals}
use Rattle.csv_days.specs.StaleRows.{first_stale}
use Rattle.csv_days.specs.TableEnds.{IsMessagesEnd, IsTableEnd, WritesTable, WritesTablePart}
use Rattle.csv_days.specs.declared.refusals.Refusals.{Refusals}
use Rattle.csv_days.specs.declared.stale_row.StaleRow.{StaleRow}
use Rattle.csv_days.specs.declared.table_end.TableEnd.{TableEnd}
use Rattle.csv_days.specs.declared.table_end.TableEnd.TheVariants.{Listing, OutOfMemory, Table, WriteFault}

-- what holds anyway holds of a success
pub any_ok : {A E : Type 0} (r : Result A E) (P : Type 0) → P → OnOk r P
any_ok (Ok value) P p = p
any_ok (Err error) P p = tt

-- what holds anyway holds at an error
pub any_error : {A E : Type 0} (r : Result A E) (P : Type 0) → P → OnErr r P
any_error (Ok value) P p = tt
any_error (Err error) P p = p

-- what follows holds of a success
pub ok_map : {A E : Type 0} (r : Result A E) (P Q : Type 0) → (P → Q) → OnOk r P → OnOk r Q
ok_map (Ok value) P Q f p = f p
ok_map (Err error) P Q f p = tt

-- ## A flush

-- what was refused is given back
pub flushed_refusals : (r : Result Refusals TableEnd) (refusals : Refusals) (answers : List (Result ℕ Refusal)) → IfOk r (λ flushed. flushed ≡ refusals)
    → AreRefusals answers refusals → IfOk r (AreRefusals answers)
flushed_refusals (Ok flushed) refusals answers is are = subst (AreRefusals answers) (sym is) are
flushed_refusals (Err end) refusals answers is are = tt

-- with the first stale row
pub flushed_stale : (r : Result Refusals TableEnd) (refusals : Refusals) (first : Option StaleRow) → IfOk r (λ flushed. flushed ≡ refusals)
    → refusals.stale ≡ first → IfOk r (λ flushed. flushed.stale ≡ first)
flushed_stale (Ok flushed) refusals first is stale = ap (λ (s : Refusals). s.stale) is ∙ stale
flushed_stale (Err end) refusals first is stale = tt

-- a flush that fails is an end of messages
pub flushed_end : (r : Result Refusals TableEnd) (messages : List Message) → IfErr r (λ end. end ≡ WriteFault) → IfErr r (IsMessagesEnd messages)
flushed_end (Ok flushed) messages is = tt
flushed_end (Err end) messages is = subst (λ (e : TableEnd). IsMessagesEnd messages e) (sym is) tt

-- if no write fails a flush does not
pub flushed_silent : (r : Result Refusals TableEnd) (P : Type 0) → IfErr r (λ end. end ≡ WriteFault) → r ≢ Err WriteFault → OnErr r P
flushed_silent (Ok flushed) P is other = tt
flushed_silent (Err end) P is other = absurd (other (ap (λ (e : TableEnd). Err e) is))

-- ## A table

-- a table was written
pub table_written : (text : Matrix → List Message → List ℕ) (matrix : Matrix) (known : Option (List ℕ)) (messages seen : List Message)
    (r : Result Refusals TableEnd) (old new : Option (List ℕ)) → seen ≡ messages → IfSome known (λ input. IsTable input messages)
    → IfOk r (AreRefusals (answers (first_tape matrix seen) seen)) → IfOk r (λ refusals. refusals.stale ≡ first_stale (first_tape matrix seen) seen)
    → OnOk r (Appends old new (text matrix seen))
    → IfSome known (λ input. IfOk r (λ refusals. WritesTable text matrix input refusals old new))
table_written text matrix None messages seen r old new same table refused stale written = tt
table_written text matrix (Some input) messages seen (Err end) old new same table refused stale written = tt
table_written text matrix (Some input) messages seen (Ok refusals) old new same table refused stale written =
    record { messages = seen; table = subst (IsTable input) (sym same) table; refused = refused; stale = stale; written = written }

-- a part of a table was written
pub table_part : (text : Matrix → List Message → List ℕ) (matrix : Matrix) (known : Option (List ℕ)) (messages seen : List Message)
    (old new : Option (List ℕ)) → seen ≡ messages → IfSome known (λ input. IsTable input messages) → WritesPrefix (text matrix seen) old new
    → IfSome known (λ input. WritesTablePart text matrix input old new)
table_part text matrix None messages seen old new same table written = tt
table_part text matrix (Some input) messages seen old new same table written =
    record { messages = seen; table = subst (IsTable input) (sym same) table; written = written }

-- why its messages have no text is why the table has none
pub messages_end : (known : Option (List ℕ)) (messages : List Message) (r : Result Refusals TableEnd) → IfSome known (λ input. IsTable input messages)
    → IfErr r (IsMessagesEnd messages) → IfSome known (λ input. IfErr r (IsTableEnd input))
messages_end None messages r table is = tt
messages_end (Some input) messages (Ok refusals) table is = tt
messages_end (Some input) messages (Err end) table is = by end is
  where
    by : (end : TableEnd) → IsMessagesEnd messages end → IsTableEnd input end
    by (Table fault) is = absurd is
    by (Listing fault) is = (messages, table, is)
    by OutOfMemory is = tt
    by WriteFault is = tt

-- results that are the same error have the same end
pub same_end : (one other : TableEnd) → ◌≡◌ {A = Result Refusals TableEnd} (Err one) (Err other) → one ≡ other
same_end one other is = cc is
