-- Defines the verdict on a journal.
use Rattle.std.specs.Prelude.{◌≡◌, ℕ, List, length, Option, Some, None, Ok}
use Rattle.tape_core.specs.Tape.{IsTape}
use Rattle.day_journal.specs.Headers.{ReadHeader, header_at}
use Rattle.day_journal.specs.declared.journal_end.JournalEnd.{JournalEnd}
use Rattle.day_journal.specs.declared.journal_end.JournalEnd.TheVariants as end
use Rattle.sale_matrix.specs.declared.matrix.Matrix.{Matrix}
use Rattle.journal_days.specs.Days.{IsAsked, IsFault, entries_of, groups_of, journal_tape}
use Rattle.journal_days.specs.declared.journal_fault.JournalFault.{JournalFault}
use Rattle.journal_days.specs.declared.journal_fault.JournalFault.TheVariants as fault
use Rattle.journal_days.specs.declared.verify.JournalVerdict.{JournalVerdict}
use Rattle.journal_days.specs.declared.verify.JournalVerdict.TheVariants.{Recorded, CutOff, Differs, Damaged}

-- a journal has this many entries, each of which is the one that its tape makes, and has this end
pub record Stands (asked : Option Matrix) (bytes : List ℕ) (count : ℕ) (end : JournalEnd) : Type 0 where
  pub header : ReadHeader
  pub read : header_at bytes ≡ Ok header
  pub matrix : IsAsked asked header
  pub legal : IsTape (journal_tape bytes header)
  pub counted : count ≡ length (entries_of (groups_of bytes header))
  pub ends : (groups_of bytes header).1 ≡ end

-- the verdict on a journal with this many entries, each of which is the tape's, which may be cut off after this many bytes
abbrev pub standing_verdict : ℕ → Option ℕ → JournalVerdict
standing_verdict count None = Recorded count
standing_verdict count (Some from) = CutOff count from

-- the verdict on a journal: each entry is the tape's, or this is the first that is not, or the first group that is damaged
abbrev pub IsVerdict : Option Matrix → List ℕ → JournalVerdict → Type 0
IsVerdict asked bytes (Recorded count) = Stands asked bytes count end.Whole
IsVerdict asked bytes (CutOff count from) = Stands asked bytes count (end.Torn from)
IsVerdict asked bytes (Differs f) = IsFault asked bytes (fault.Entry f)
IsVerdict asked bytes (Damaged first count) = IsFault asked bytes (fault.Damaged first count)

-- why there is no verdict: there is no header, or it has another matrix, or memory ran out
abbrev pub IsVerifyFault : Option Matrix → List ℕ → JournalFault → Type 0
IsVerifyFault asked bytes (fault.Entry f) = ⊥
IsVerifyFault asked bytes (fault.Damaged first count) = ⊥
IsVerifyFault asked bytes other = IsFault asked bytes other
