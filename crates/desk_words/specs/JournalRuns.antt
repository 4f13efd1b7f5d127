-- What each word does with a journal: what it writes, and its status.
use Rattle.std.specs.Prelude.{◌≡◌, ◌⊎◌, ℕ, List, Option, None, IfSome, IsOk, OnErr, OnOk, Result, Ok, Err}
use Rattle.std.specs.Io.KnownBytes.{Appends}
use Rattle.day_report.specs.ReportText.{report_text}
use Rattle.day_report.specs.Rows.{report_rows}
use Rattle.journal_days.specs.Days.{IsDay, IsFault}
use Rattle.journal_days.specs.Texts.{messages_in}
use Rattle.journal_days.specs.Verdicts.{IsVerdict, IsVerifyFault}
use Rattle.journal_days.specs.declared.journal_day.JournalDay.{JournalDay}
use Rattle.journal_days.specs.declared.journal_fault.JournalFault.{JournalFault}
use Rattle.journal_days.specs.declared.verify.JournalVerdict.{JournalVerdict}
use Rattle.command_line.specs.Statuses.{status_code}
use Rattle.command_line.specs.declared.command.Command.{Command}
use Rattle.command_line.specs.declared.command.Command.TheVariants as command
use Rattle.command_line.specs.declared.status.Status.TheVariants as status
use Rattle.whole_io.specs.Lines.{WritesLines}
use Rattle.whole_io.specs.Writing.{WritesPrefix}
use Rattle.sale_matrix.specs.declared.matrix.Matrix.{Matrix}
use Rattle.csv_days.specs.Explained.{explain_text}
use Rattle.csv_days.specs.TapeRows.{tape_text}
use Rattle.whole_io.specs.declared.writing_fault.WritingFault.{WritingFault}
use Rattle.whole_io.specs.declared.writing_fault.WritingFault.TheVariants as writing
use Rattle.desk_words.specs.JournalStatuses.{no_day_status, verdict_status, written_status}
use Rattle.desk_words.specs.Outputs.{Grows}
use Rattle.csv_days.specs.declared.day_text.DayText.{DayText}
use Rattle.csv_days.specs.declared.day_text.DayText.TheVariants.{Explanation, Report, Tape}

-- a text of a journal's day, by the journal's own matrix
abbrev pub day_text : DayText → JournalDay → List ℕ
day_text Report day = report_text (report_rows day.tape)
day_text Tape day = tape_text day.tape.matrix (messages_in day.tape.entries)
day_text Explanation day = explain_text day.tape.matrix (messages_in day.tape.entries)

-- an input was not read to its end: nothing was written, and the status says why
abbrev pub Unread : {W : Type 0} → ℕ → W → W → Option (List ℕ) → Option (List ℕ) → Type 0
Unread code writer_old writer_new said_old said_new =
    (writer_new ≡ writer_old) × ((code ≡ status_code status.ReadFault) ⊎ (code ≡ status_code status.OutOfMemory)) × WritesLines said_old said_new

-- a day's text was asked for: the status is that of how it was written; of a report nothing was written if memory ran out
pub record TellsDay {W E : Type 0} (text : DayText) (day : JournalDay) (code : ℕ) (writer_old writer_new : W) (old new : Option (List ℕ))
    (errors_old errors_new : E) (said_old said_new : Option (List ℕ)) : Type 0 where
  pub run : Result (Unit {0}) WritingFault
  pub status_is : code ≡ status_code (written_status run)
  pub written : OnOk run (Appends old new (day_text text day))
  pub part : OnErr run (WritesPrefix (day_text text day) old new)
  pub memory : text ≡ Report → run ≡ Err writing.OutOfMemory → writer_new ≡ writer_old
  pub quiet : IsOk run → day.torn ≡ None → errors_new ≡ errors_old
  pub said : WritesLines said_old said_new

-- nothing was written, since a journal has no day
abbrev pub TellsNoDay : {W : Type 0} → JournalFault → ℕ → W → W → Option (List ℕ) → Option (List ℕ) → Type 0
TellsNoDay f code writer_old writer_new said_old said_new =
    (code ≡ status_code (no_day_status f)) × (writer_new ≡ writer_old) × WritesLines said_old said_new

-- a text of the day of these bytes was asked for
abbrev pub RunsDay : {W E : Type 0} → DayText → Option Matrix → List ℕ → ℕ → W → W → Option (List ℕ) → Option (List ℕ) → E → E
    → Option (List ℕ) → Option (List ℕ) → Type 0
RunsDay text asked bytes code writer_old writer_new old new errors_old errors_new said_old said_new =
    ((day : JournalDay) × IsDay asked bytes day × TellsDay text day code writer_old writer_new old new errors_old errors_new said_old said_new)
    ⊎ ((f : JournalFault) × IsFault asked bytes f × TellsNoDay f code writer_old writer_new said_old said_new)

-- a journal's verdict was written; or a write failed, or memory ran out
abbrev pub TellsFound : {W E : Type 0} → JournalVerdict → ℕ → W → W → Option (List ℕ) → Option (List ℕ) → E → E
    → Option (List ℕ) → Option (List ℕ) → Type 0
TellsFound found code writer_old writer_new old new errors_old errors_new said_old said_new =
    ((code ≡ status_code (verdict_status found)) × Grows old new × (errors_new ≡ errors_old))
    ⊎ ((code ≡ status_code status.WriteFault) × Grows old new × WritesLines said_old said_new)
    ⊎ ((code ≡ status_code status.OutOfMemory) × (writer_new ≡ writer_old) × WritesLines said_old said_new)

-- these bytes were verified
abbrev pub RunsFound : {W E : Type 0} → Option Matrix → List ℕ → ℕ → W → W → Option (List ℕ) → Option (List ℕ) → E → E
    → Option (List ℕ) → Option (List ℕ) → Type 0
RunsFound asked bytes code writer_old writer_new old new errors_old errors_new said_old said_new =
    ((found : JournalVerdict) × IsVerdict asked bytes found × TellsFound found code writer_old writer_new old new errors_old errors_new said_old said_new)
    ⊎ ((f : JournalFault) × IsVerifyFault asked bytes f × TellsNoDay f code writer_old writer_new said_old said_new)

-- an input was read whole and its bytes were run; or it was not read to its end
abbrev pub Reads : {W : Type 0} → (List ℕ → Type 0) → Option (List ℕ) → ℕ → W → W → Option (List ℕ) → Option (List ℕ) → Type 0
Reads Runs input code writer_old writer_new said_old said_new =
    Unread code writer_old writer_new said_old said_new ⊎ ((bytes : List ℕ) × IfSome input (λ all. bytes ≡ all) × Runs bytes)

-- a word takes no journal
abbrev pub TellsNoTable : {W : Type 0} → ℕ → W → W → Option (List ℕ) → Option (List ℕ) → Type 0
TellsNoTable code writer_old writer_new said_old said_new =
    (code ≡ status_code status.Bad) × (writer_new ≡ writer_old) × WritesLines said_old said_new

-- what a word did with a journal, whose matrix has to be the one that is asked for, if any
abbrev pub AnswersJournal : {W E : Type 0} → Command → ℕ → Option (List ℕ) → W → W → Option (List ℕ) → Option (List ℕ) → E → E
    → Option (List ℕ) → Option (List ℕ) → Type 0
AnswersJournal (command.Report asked strict) code input writer_old writer_new old new errors_old errors_new said_old said_new =
    Reads (λ bytes. RunsDay Report asked bytes code writer_old writer_new old new errors_old errors_new said_old said_new) input code writer_old writer_new said_old said_new
AnswersJournal (command.Tape asked strict) code input writer_old writer_new old new errors_old errors_new said_old said_new =
    Reads (λ bytes. RunsDay Tape asked bytes code writer_old writer_new old new errors_old errors_new said_old said_new) input code writer_old writer_new said_old said_new
AnswersJournal (command.Explain asked strict) code input writer_old writer_new old new errors_old errors_new said_old said_new =
    Reads (λ bytes. RunsDay Explanation asked bytes code writer_old writer_new old new errors_old errors_new said_old said_new) input code writer_old writer_new said_old said_new
AnswersJournal (command.Verify asked) code input writer_old writer_new old new errors_old errors_new said_old said_new =
    Reads (λ bytes. RunsFound asked bytes code writer_old writer_new old new errors_old errors_new said_old said_new) input code writer_old writer_new said_old said_new
AnswersJournal command.Check code input writer_old writer_new old new errors_old errors_new said_old said_new =
    TellsNoTable code writer_old writer_new said_old said_new
AnswersJournal (command.Convert conversion) code input writer_old writer_new old new errors_old errors_new said_old said_new =
    TellsNoTable code writer_old writer_new said_old said_new
