-- How a day's journal is started: begun, continued or refused.
use Rattle.std.specs.Prelude.{◌≡◌, ◌≢◌, ◌-◌, ◌⊎◌, ℕ, Bool, true, false, List, Option, Some, None, Ok, Err, IfSome, bytes_eq, drop, length, option_map, take}
use Rattle.std.specs.Io.KnownBytes.{Keeps}
use Rattle.std.specs.declared.io.ErrorKind.{ErrorKind}
use Rattle.std.specs.declared.io.ErrorKind.TheVariants as kind
use Rattle.days.specs.Days.{Differs}
use Rattle.days.specs.declared.day.Day.{Day}
use Rattle.day_journal.specs.HeaderReads.{GivesHeader}
use Rattle.day_journal.specs.Headers.{MAGIC, ReadHeader, header_at, header_digest, header_text}
use Rattle.day_journal.specs.Journals.{reader_at}
use Rattle.day_journal.specs.declared.header_fault.JournalHeaderFault.TheVariants as header
use Rattle.day_journal.specs.declared.header_reading.JournalHeader.{JournalHeader}
use Rattle.journal_start.specs.Groups.{HasGroups, RefusesGroups}
use Rattle.journal_start.specs.declared.journal_groups.JournalGroups.{JournalGroups}
use Rattle.journal_start.specs.declared.journal_refusal.JournalRefusal.TheVariants.{NoJournal, OtherVersion, OtherDay, HeaderDamaged, Damaged}
use Rattle.journal_start.specs.declared.start_fault.StartFault.{StartFault}
use Rattle.journal_start.specs.declared.start_fault.StartFault.TheVariants.{Refused, Unread, Unwritten, OutOfMemory}
use Rattle.journal_start.specs.declared.starting.Started.{Started}

-- the fault of a read that failed with an error of this kind
abbrev pub fault_of_kind : ErrorKind → StartFault
fault_of_kind kind.OutOfMemory = OutOfMemory
fault_of_kind other = Unread other

-- a fault of a read
abbrev pub IsUnread : StartFault → Type 0
IsUnread (Unread why) = Unit {0}
IsUnread OutOfMemory = Unit {0}
IsUnread _ = ⊥

-- ---- the header

-- whether bytes are a front of what every journal begins with
abbrev pub is_front : List ℕ → Bool
is_front bytes = bytes_eq bytes (take (length bytes) MAGIC)

-- no journal was begun: the bytes end within what every journal begins with or within the header
abbrev pub IsUnbegun : List ℕ → Type 0
IsUnbegun bytes = (is_front bytes ≡ true) ⊎ (header_at bytes ≡ Err header.Short)

-- why bytes are not the beginning of a journal with these day
abbrev pub RefusesHeader : StartFault → Day → List ℕ → Type 0
RefusesHeader (Refused NoJournal) day bytes = (is_front bytes ≡ false) × (header_at bytes ≡ Err header.NoJournal)
RefusesHeader (Refused OtherVersion) day bytes = header_at bytes ≡ Err header.OtherVersion
RefusesHeader (Refused HeaderDamaged) day bytes = header_at bytes ≡ Err header.Damaged
RefusesHeader (Refused (OtherDay term)) day bytes = (h : ReadHeader) × (header_at bytes ≡ Ok h) × Differs (Some term) h.0 day
RefusesHeader OutOfMemory day bytes = Unit {0}
RefusesHeader _ day bytes = ⊥

-- bytes begin with the header of a journal of these day
pub record HasHeader (h : JournalHeader) (day : Day) (bytes : List ℕ) : Type 0 where
  pub given : GivesHeader (Ok h) bytes (header_at bytes)
  pub own : h.day ≡ day

-- ---- the start

-- a disk whose bytes were known has these instead
abbrev pub HasInstead : List ℕ → Option (List ℕ) → Option (List ℕ) → Type 0
HasInstead text old new = IfSome old (λ had. new ≡ Some text)

-- a new journal was begun, which has only its header
pub record Begins (s : Started) (day : Day) (bytes : List ℕ) (old new : Option (List ℕ)) : Type 0 where
  pub unbegun : IsUnbegun bytes
  pub groups : s.groups ≡ record { session = day.session; held = 0; digest = header_digest day; broken = false }
  pub past : s.past ≡ None
  pub cut_off : s.cut_off ≡ 0
  pub header : HasInstead (header_text day) old new

-- a journal was cut to its whole groups, or had nothing behind them
abbrev pub IsCutTo : ℕ → ℕ → Option (List ℕ) → Option (List ℕ) → Type 0
IsCutTo whole cut_off old new = Keeps (option_map (take whole) old) new ⊎ ((cut_off ≡ 0) × Keeps old new)

-- the journal of this day is continued behind its whole groups
pub record GoesOn (s : Started) (day : Day) (bytes : List ℕ) (old new : Option (List ℕ)) : Type 0 where
  pub header : JournalHeader
  pub had : JournalGroups
  pub begun : HasHeader header day bytes
  pub read : HasGroups had header bytes
  pub groups : s.groups ≡ record { session = day.session; held = had.held; digest = had.digest; broken = false }
  pub cut_off : s.cut_off ≡ length bytes - had.whole
  pub cut : IsCutTo had.whole s.cut_off old new
  pub past : IfSome s.past (λ p. (p.journal.items ≡ take had.whole bytes) × (p.from ≡ header.len) × (p.digest ≡ header.digest) × (p.lines.items ≡ had.lines.items))
  pub is_past : s.past ≢ None

-- a journal of these bytes was started
abbrev pub Starts : Started → Day → List ℕ → Option (List ℕ) → Option (List ℕ) → Type 0
Starts s day bytes old new = Begins s day bytes old new ⊎ GoesOn s day bytes old new

-- why a journal with this header is not continued; nothing is said if it can't be written
abbrev pub RefusesBehind : StartFault → JournalHeader → List ℕ → Type 0
RefusesBehind (Refused why) h bytes = RefusesGroups (Refused why) (reader_at h.day.session 0 h.digest h.len (drop h.len bytes))
RefusesBehind _ h bytes = Unit {0}

-- why a journal with these bytes is not started; nothing is said if it can't be read or written
abbrev pub Refuses : StartFault → Day → List ℕ → Type 0
Refuses (Refused (Damaged first count)) day bytes = (h : JournalHeader) × HasHeader h day bytes × RefusesBehind (Refused (Damaged first count)) h bytes
Refuses (Refused other) day bytes = RefusesHeader (Refused other) day bytes
Refuses _ day bytes = Unit {0}

-- only a journal that could not be written has other bytes than before
abbrev pub IsLeft : StartFault → Option (List ℕ) → Option (List ℕ) → Type 0
IsLeft Unwritten old new = Unit {0}
IsLeft _ old new = Keeps old new
