-- What each word does with a table or a journal: what it writes, and its status.
use Rattle.std.specs.Prelude.{◌≡◌, ◌≢◌, ◌⊎◌, ◌&&◌, ℕ, Bool, true, false, List, Option, Some, None, IfOk, IfSome, Result, Ok, Err, IsOk, OnOk, if◌then◌else◌}
use Rattle.std.specs.List.{list_any}
use Rattle.std.specs.Option.{is_some}
use Rattle.sale_matrix.specs.declared.matrix.Matrix.{Matrix}
use Rattle.sale_matrix.specs.declared.matrix.Matrix.TheVariants.{One}
use Rattle.reports.specs.declared.message.Message.{Message}
use Rattle.whole_io.specs.Lines.{WritesLines}
use Rattle.csv_days.specs.Checks.{IsCheckEnd, WritesCheck, WritesCheckPart}
use Rattle.csv_days.specs.Days.{day_text}
use Rattle.csv_days.specs.EndTexts.{end_status}
use Rattle.csv_days.specs.Refusals.{RefusesNone, refused_for}
use Rattle.tape_core.specs.Refusals.{all_refusals}
use Rattle.csv_days.specs.Strict.{IsListed, strictly}
use Rattle.csv_days.specs.Explained.{explain_text}
use Rattle.csv_days.specs.TableEnds.{IsTableEnd, WritesTable, WritesTablePart}
use Rattle.csv_days.specs.TapeRows.{tape_text}
use Rattle.csv_days.specs.declared.refusals.Refusals.{Refusals}
use Rattle.csv_days.specs.declared.table_end.TableEnd.{TableEnd}
use Rattle.csv_days.specs.declared.table_end.TableEnd.TheVariants.{OutOfMemory, WriteFault}
use Rattle.journal_days.specs.Days.{begins_journal}
use Rattle.desk_words.specs.JournalRuns.{AnswersJournal, Unread}
use Rattle.desk_words.specs.TextRuns.{RunsText, kind_of}
use Rattle.desk_words.specs.VerifyRuns.{RunsVerify}
use Rattle.command_line.specs.declared.command.Command.{Command}
use Rattle.command_line.specs.declared.command.Command.TheVariants.{Report, Tape, Explain, Check, Verify, Convert}

-- ## Statuses

-- whether rows were refused
abbrev pub refuses_any : Refusals → Bool
refuses_any refusals = list_any (λ reason. is_some (refused_for refusals reason)) all_refusals

-- the status of a run, in which refused rows may be faults (2)
abbrev pub run_status : Bool → Result Refusals TableEnd → ℕ
run_status strict (Ok refusals) = if strict && refuses_any refusals then 2 else 0
run_status strict (Err end) = end_status end

-- the text of a table, but no text if a row is refused and refused rows are faults
abbrev pub text_by : Bool → (Matrix → List Message → List ℕ) → Matrix → List Message → List ℕ
text_by true text = strictly text
text_by false text = text

-- the status of a table that was checked: 0 if it has no fault, else 2
abbrev pub checked_status : Bool → ℕ
checked_status true = 0
checked_status false = 2

-- the status of a check
abbrev pub check_status : Result Bool TableEnd → ℕ
check_status (Ok faultless) = checked_status faultless
check_status (Err end) = end_status end

-- ## Runs

-- what a run did for a table: its text was written, or it ended for a reason
abbrev pub Comes : (Matrix → List Message → List ℕ) → Matrix → List ℕ → Result Refusals TableEnd → Option (List ℕ) → Option (List ℕ) → Type 0
Comes text matrix input (Ok refusals) old new = WritesTable text matrix input refusals old new
Comes text matrix input (Err end) old new = IsTableEnd input end

-- a text of a table was asked for, in which refused rows may be faults: the status is that of how it ended, and nothing else was
-- written; nothing at all if rows were refused and refused rows are faults, whatever is known of the reader and the writer
pub record RunsTable {W E : Type 0} (strict : Bool) (text : Matrix → List Message → List ℕ) (matrix : Matrix) (input old new : Option (List ℕ)) (status : ℕ)
    (writer_old writer_new : W) (errors_old errors_new : E) (said_old said_new : Option (List ℕ)) : Type 0 where
  pub run : Result Refusals TableEnd
  pub status_is : status ≡ run_status strict run
  pub comes : IfSome input (λ bytes. Comes (text_by strict text) matrix bytes run old new)
  pub part : (run ≡ Err WriteFault) ⊎ (run ≡ Err OutOfMemory)
      → (writer_new ≡ writer_old) ⊎ IfSome input (λ bytes. WritesTablePart (text_by strict text) matrix bytes old new)
  pub silent : (end : TableEnd) → run ≡ Err end → end ≢ WriteFault → end ≢ OutOfMemory → writer_new ≡ writer_old
  pub listed : strict ≡ true → IfSome input (λ bytes. OnOk run (IsListed bytes))
  pub unwritten : strict ≡ true → IfOk run (λ refusals. RefusesNone refusals ⊎ (writer_new ≡ writer_old))
  pub quiet : IfOk run (λ refusals. RefusesNone refusals → errors_new ≡ errors_old)
  pub said : WritesLines said_old said_new

-- what a check did for a table: the lines of its faults were written, or it ended for a reason
abbrev pub ComesToCheck : List ℕ → Result Bool TableEnd → Option (List ℕ) → Option (List ℕ) → Type 0
ComesToCheck input (Ok faultless) old new = WritesCheck input faultless old new
ComesToCheck input (Err end) old new = IsCheckEnd end

-- the faults of a table were asked for: the status is that of how the check ended, and nothing else was written
pub record RunsCheck {W E : Type 0} (input old new : Option (List ℕ)) (status : ℕ)
    (writer_old writer_new : W) (errors_old errors_new : E) (said_old said_new : Option (List ℕ)) : Type 0 where
  pub run : Result Bool TableEnd
  pub status_is : status ≡ check_status run
  pub comes : IfSome input (λ bytes. ComesToCheck bytes run old new)
  pub part : run ≡ Err WriteFault → IfSome input (λ bytes. WritesCheckPart bytes old new)
  pub silent : (end : TableEnd) → run ≡ Err end → end ≢ WriteFault → writer_new ≡ writer_old
  pub quiet : IsOk run → errors_new ≡ errors_old
  pub said : WritesLines said_old said_new

-- ## Words

-- the matrix of a table: the one that is asked for, else Matrix One
abbrev pub table_matrix : Option Matrix → Matrix
table_matrix None = One
table_matrix (Some matrix) = matrix

-- what a word did with a table or a batch's text; of a report nothing was written if memory ran out (status 5)
abbrev pub AnswersTable : {W E : Type 0} → Command → ℕ → Option (List ℕ) → W → W → Option (List ℕ) → Option (List ℕ) → E → E
    → Option (List ℕ) → Option (List ℕ) → Type 0
AnswersTable (Report asked strict) status input writer_old writer_new old new errors_old errors_new said_old said_new =
    RunsTable strict day_text (table_matrix asked) input old new status writer_old writer_new errors_old errors_new said_old said_new × (status ≡ 5 → writer_new ≡ writer_old)
AnswersTable (Tape asked strict) status input writer_old writer_new old new errors_old errors_new said_old said_new =
    RunsTable strict tape_text (table_matrix asked) input old new status writer_old writer_new errors_old errors_new said_old said_new
AnswersTable (Explain asked strict) status input writer_old writer_new old new errors_old errors_new said_old said_new =
    RunsTable strict explain_text (table_matrix asked) input old new status writer_old writer_new errors_old errors_new said_old said_new
AnswersTable Check status input writer_old writer_new old new errors_old errors_new said_old said_new =
    RunsCheck input old new status writer_old writer_new errors_old errors_new said_old said_new
AnswersTable (Verify asked) status input writer_old writer_new old new errors_old errors_new said_old said_new =
    RunsVerify (table_matrix asked) input old new status writer_old writer_new errors_old errors_new said_old said_new
AnswersTable (Convert conversion) status input writer_old writer_new old new errors_old errors_new said_old said_new =
    RunsText (kind_of conversion) input old new status writer_old writer_new errors_old errors_new said_old said_new

-- what a word did with a journal if the input is one, else with a table
abbrev pub AnswersBy : {W E : Type 0} → Bool → Command → ℕ → Option (List ℕ) → W → W → Option (List ℕ) → Option (List ℕ) → E → E
    → Option (List ℕ) → Option (List ℕ) → Type 0
AnswersBy true = AnswersJournal
AnswersBy false = AnswersTable

-- what a word did with an input: with a journal if the input begins as one, else with a table; or the first bytes could not be
-- read
abbrev pub AnswersCommand : {W E : Type 0} → Command → ℕ → Option (List ℕ) → W → W → Option (List ℕ) → Option (List ℕ) → E → E
    → Option (List ℕ) → Option (List ℕ) → Type 0
AnswersCommand command status input writer_old writer_new old new errors_old errors_new said_old said_new =
    Unread status writer_old writer_new said_old said_new
    ⊎ ((journal : Bool) × IfSome input (λ bytes. journal ≡ begins_journal bytes)
    × AnswersBy journal command status input writer_old writer_new old new errors_old errors_new said_old said_new)
