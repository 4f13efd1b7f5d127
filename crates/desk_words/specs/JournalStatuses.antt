-- The statuses about a journal: for a journal with no day, for its day's texts, and for its verdict.
use Rattle.std.specs.Prelude.{Result, Ok, Err}
use Rattle.journal_days.specs.declared.journal_fault.JournalFault.{JournalFault}
use Rattle.journal_days.specs.declared.journal_fault.JournalFault.TheVariants as fault
use Rattle.journal_days.specs.declared.verify.JournalVerdict.{JournalVerdict}
use Rattle.journal_days.specs.declared.verify.JournalVerdict.TheVariants as verdict
use Rattle.command_line.specs.declared.status.Status.{Status}
use Rattle.command_line.specs.declared.status.Status.TheVariants as status
use Rattle.whole_io.specs.declared.writing_fault.WritingFault.{WritingFault}
use Rattle.whole_io.specs.declared.writing_fault.WritingFault.TheVariants as writing

-- the status of a journal that has no day
abbrev pub no_day_status : JournalFault → Status
no_day_status (fault.Header f) = status.Bad
no_day_status (fault.OtherMatrix matrix) = status.Bad
no_day_status (fault.Entry f) = status.Bad
no_day_status (fault.Damaged first count) = status.Bad
no_day_status fault.OutOfMemory = status.OutOfMemory

-- the status of a verdict: a group that is cut off is no difference
abbrev pub verdict_status : JournalVerdict → Status
verdict_status (verdict.Recorded count) = status.Done
verdict_status (verdict.CutOff count from) = status.Done
verdict_status (verdict.Differs f) = status.Differs
verdict_status (verdict.Damaged first count) = status.Differs

-- the status of a day's text, by how it was written
abbrev pub written_status : Result (Unit {0}) WritingFault → Status
written_status (Ok done) = status.Done
written_status (Err writing.OutOfMemory) = status.OutOfMemory
written_status (Err writing.WriteFault) = status.WriteFault
