-- The causes of a report that could not be written, and what is said at the end of a day.
use Rattle.std.specs.Prelude.{ℕ, Bool, true, false, List, Option, None, Some, Result, Ok, Err}
use Rattle.std.specs.declared.io.ErrorKind.{ErrorKind}
use Rattle.std.specs.declared.io.ErrorKind.TheVariants as kind
use Rattle.desk_words.specs.RunStatuses.{ended_status}
use Rattle.feed_ends.specs.declared.fault.Fault.{Fault}
use Rattle.feed_ends.specs.declared.fault.Fault.TheVariants.{Write}
use Rattle.command_line.specs.Statuses.{status_text}
use Rattle.command_line.specs.declared.status.Status.TheVariants.{WriteFault}
use Rattle.whole_io.specs.Lines.{WritesLines}
use Rattle.whole_io.specs.Writing.{WritesPrefix}
use Rattle.tapebox.specs.declared.write_cause.WriteCause.{WriteCause}
use Rattle.tapebox.specs.declared.write_cause.WriteCause.TheVariants.{NoSpace, QuotaUsedUp, TooLarge, Reset, Other}

-- the cause of an error of this kind
abbrev pub write_cause_of : ErrorKind → WriteCause
write_cause_of kind.StorageFull = NoSpace
write_cause_of kind.QuotaExceeded = QuotaUsedUp
write_cause_of kind.FileTooLarge = TooLarge
write_cause_of kind.ConnectionReset = Reset
write_cause_of _ = Other

-- what is said of a write fault, by the last error of the output: the cause in a line; if the output had no error, something else
-- could not be written
abbrev pub SaysWriteFault : Option WriteCause → Option (List ℕ) → Option (List ℕ) → Type 0
SaysWriteFault None old new = WritesPrefix (status_text WriteFault) old new
SaysWriteFault (Some cause) old new = WritesLines old new

-- whether nothing is said of it: the output had an error, and its reader is gone
abbrev pub is_unsaid_fault : Bool → Option WriteCause → Bool
is_unsaid_fault gone None = false
is_unsaid_fault gone (Some cause) = gone

-- what is said of how a day ended, by the last error of its report's output
abbrev pub SaysDayEnd : Result (Unit {0}) Fault → Option WriteCause → Option (List ℕ) → Option (List ℕ) → Type 0
SaysDayEnd (Err Write) cause old new = SaysWriteFault cause old new
SaysDayEnd ended cause old new = WritesPrefix (status_text (ended_status ended)) old new

-- whether nothing is said of it: all is done, or the report's reader is gone
abbrev pub is_unsaid : Result (Unit {0}) Fault → Bool → Option WriteCause → Bool
is_unsaid (Ok done) gone cause = true
is_unsaid (Err Write) gone cause = is_unsaid_fault gone cause
is_unsaid (Err other) gone cause = false
