-- Defines the day of a journal: the tape that its whole groups make, and how it ends; or the first reason why there is none.
use Rattle.std.specs.Prelude.{◌≡◌, ◌≢◌, ◌⊎◌, ◌-◌, ℕ, Bool, List, length, bytes_eq, drop, take, false, Option, Some, None, IfSome, Result, Ok, Err}
use Rattle.std.specs.List.{flat_map}
use Rattle.sale_matrix.specs.declared.matrix.Matrix.{Matrix}
use Rattle.tape_core.specs.Tape.{IsTape, TapeState, empty_tape}
use Rattle.tape_core.specs.declared.entry.Entry.{Entry}
use Rattle.tape_core.specs.declared.refusal.Refusal.TheVariants as refusal
use Rattle.tape_types.specs.Ranges.{TAPE_MOST}
use Rattle.days.specs.declared.day.Day.{Day}
use Rattle.day_journal.specs.Headers.{MAGIC, ReadHeader, header_at}
use Rattle.day_journal.specs.Journals.{IsRead, Journal, ReaderState, Reads, all_groups, reader_at}
use Rattle.day_journal.specs.Replays.{StopsReplay, with_entries}
use Rattle.day_journal.specs.declared.group_reader.Next.TheVariants.{End}
use Rattle.day_journal.specs.declared.header_fault.JournalHeaderFault.{JournalHeaderFault}
use Rattle.day_journal.specs.declared.header_fault.JournalHeaderFault.TheVariants as header
use Rattle.day_journal.specs.declared.journal_end.JournalEnd.{JournalEnd}
use Rattle.day_journal.specs.declared.journal_end.JournalEnd.TheVariants as end
use Rattle.day_journal.specs.declared.replaying.ReplayFault.{ReplayFault}
use Rattle.day_journal.specs.declared.replaying.ReplayFault.TheVariants as replay
use Rattle.journal_days.specs.declared.journal_day.JournalDay.{JournalDay}
use Rattle.journal_days.specs.declared.journal_fault.JournalFault.{JournalFault}
use Rattle.journal_days.specs.declared.journal_fault.JournalFault.TheVariants.{Header, OtherMatrix, Entry as OfEntry, Damaged, OutOfMemory}

-- ## What a journal says

-- whether bytes begin as every journal does
abbrev pub begins_journal : List ℕ → Bool
begins_journal bytes = bytes_eq (take 8 bytes) MAGIC

-- how many bytes a header that was read has
abbrev pub header_size : List ℕ → ReadHeader → ℕ
header_size bytes h = length bytes - length h.1.1

-- the reader after the header of a journal
abbrev pub behind_header : List ℕ → ReadHeader → ReaderState
behind_header bytes h = reader_at h.0.session 0 h.1.0 (header_size bytes h) (drop (header_size bytes h) bytes)

-- the whole groups of a journal, and how it ends
abbrev pub groups_of : List ℕ → ReadHeader → Journal
groups_of bytes h = all_groups (behind_header bytes h)

-- the entries of groups, one after the other
abbrev pub entries_of : Journal → List Entry
entries_of journal = flat_map (λ es. es) journal.0

-- the empty tape of a header's listing, limit and matrix
abbrev pub header_tape : Day → TapeState
header_tape t = empty_tape t.listing t.limit t.matrix

-- the tape that a journal describes, which may not be one
abbrev pub journal_tape : List ℕ → ReadHeader → TapeState
journal_tape bytes h = with_entries (header_tape h.0) (entries_of (groups_of bytes h))

-- ## Its day

-- the end of a journal whose whole groups and header have this many bytes, if a group is cut off after them
abbrev pub end_of : Option ℕ → JournalEnd
end_of None = end.Whole
end_of (Some from) = end.Torn from

-- no matrix was asked for, or that of the header
abbrev pub IsAsked : Option Matrix → ReadHeader → Type 0
IsAsked asked h = IfSome asked (λ matrix. matrix ≡ h.0.matrix)

-- a journal has this day: each entry of its whole groups is the one that the tape makes of the messages up to it, and nothing
-- else is on the tape
pub record IsDay (asked : Option Matrix) (bytes : List ℕ) (day : JournalDay) : Type 0 where
  pub header : ReadHeader
  pub read : header_at bytes ≡ Ok header
  pub matrix : IsAsked asked header
  pub tape : day.tape ≡ journal_tape bytes header
  pub legal : IsTape day.tape
  pub end : (groups_of bytes header).1 ≡ end_of day.torn

-- ## Why it has none

-- a replay stopped for the entry itself, and not because memory ran out
abbrev pub IsOwn : ReplayFault → Type 0
IsOwn (replay.Refused number why) = why ≢ refusal.OutOfMemory
IsOwn (replay.Differs number) = Unit {0}

-- a replay of entries stopped at one of them for that entry itself, and all before it are the tape's
abbrev pub StopsAt : ReplayFault → TapeState → List Entry → Type 0
StopsAt f t es = IsOwn f × ((stopped : TapeState) × IsTape stopped × StopsReplay f t es stopped)

-- another matrix than this one was asked for
abbrev pub IsOther : Option Matrix → Matrix → Type 0
IsOther asked matrix = (own : Matrix) × (asked ≡ Some own) × (own ≢ matrix)

-- the first reason why a journal has no day, unless memory ran out: its entries and groups are looked at only if its matrix is
-- the one that is asked for
abbrev pub IsFault : Option Matrix → List ℕ → JournalFault → Type 0
IsFault asked bytes (Header f) = header_at bytes ≡ Err f
IsFault asked bytes (OtherMatrix matrix) = (h : ReadHeader) × (header_at bytes ≡ Ok h) × (h.0.matrix ≡ matrix) × IsOther asked matrix
IsFault asked bytes (OfEntry f) =
    (h : ReadHeader) × (header_at bytes ≡ Ok h) × IsAsked asked h × StopsAt f (header_tape h.0) (entries_of (groups_of bytes h))
IsFault asked bytes (Damaged first count) =
    (h : ReadHeader) × (header_at bytes ≡ Ok h) × IsAsked asked h × IsTape (journal_tape bytes h) × ((groups_of bytes h).1 ≡ end.Damaged first count)
IsFault asked bytes OutOfMemory = Unit {0}

-- ## The parts of the replay

-- the fault for one of a header, or of an entry: the same, or that memory ran out if it did there
abbrev pub IsHeaderFault : JournalHeaderFault → JournalFault → Type 0
IsHeaderFault f fault = ((f ≡ header.OutOfMemory) × (fault ≡ OutOfMemory)) ⊎ ((f ≢ header.OutOfMemory) × (fault ≡ Header f))

abbrev pub IsEntryFault : ReplayFault → JournalFault → Type 0
IsEntryFault f fault = ((IsOwn f → ⊥) × (fault ≡ OutOfMemory)) ⊎ (IsOwn f × (fault ≡ OfEntry f))

-- the fault for a matrix, if another one was asked for
abbrev pub IsMatrixFault : Option Matrix → Matrix → Option JournalFault → Type 0
IsMatrixFault asked matrix None = IfSome asked (λ own. own ≡ matrix)
IsMatrixFault asked matrix (Some fault) = (fault ≡ OtherMatrix matrix) × IsOther asked matrix

-- the next group was replayed, or there is none and this is the end
abbrev pub TakesNext : Option JournalEnd → ReaderState → TapeState → ReaderState → TapeState → Type 0
TakesNext None old t new after = (es : List Entry) × IsRead old es new × (after ≡ with_entries t es)
TakesNext (Some end) old t new after = ((es : List Entry) × Reads (End end) old es new) × (after ≡ t)

-- why a replay stopped, among these entries
abbrev pub StopsEntries : JournalFault → TapeState → List Entry → Type 0
StopsEntries (Header f) t es = ⊥
StopsEntries (OtherMatrix matrix) t es = ⊥
StopsEntries (OfEntry f) t es = StopsAt f t es
StopsEntries (Damaged first count) t es = ⊥
StopsEntries OutOfMemory t es = Unit {0}

-- why a replay stopped, in the next group
abbrev pub StopsNext : JournalFault → ReaderState → TapeState → Type 0
StopsNext (Header f) old t = ⊥
StopsNext (OtherMatrix matrix) old t = ⊥
StopsNext (OfEntry f) old t = (es : List Entry) × (new : ReaderState) × IsRead old es new × StopsAt f t es
StopsNext (Damaged first count) old t = ⊥
StopsNext OutOfMemory old t = Unit {0}

-- what a journal whose groups are all replayed ends with: its day, or damage
abbrev pub EndsDay : JournalEnd → TapeState → Result JournalDay JournalFault → Type 0
EndsDay end t (Ok day) = (day.tape ≡ t) × IsTape t × (end ≡ end_of day.torn)
EndsDay (end.Damaged first count) t (Err fault) = (fault ≡ Damaged first count) × IsTape t
EndsDay end t (Err fault) = ⊥

-- ## The end of its tape

-- the open tape of the first entries of another, with the greatest limit
abbrev pub unlimited_before : TapeState → ℕ → TapeState
unlimited_before t k = record { listing = t.listing; matrix = t.matrix; limit = TAPE_MOST; closed = false; entries = take k t.entries }

-- the same of all its entries
abbrev pub unlimited : TapeState → TapeState
unlimited t = record { listing = t.listing; matrix = t.matrix; limit = TAPE_MOST; closed = false; entries = t.entries }
