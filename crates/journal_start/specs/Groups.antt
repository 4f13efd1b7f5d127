-- The groups of a journal, read to its end.
use Rattle.std.specs.Prelude.{◌≡◌, ◌≢◌, ◌+◌, ◌-◌, ◌⊎◌, ◌∷◌, [], ℕ, List, Option, Err, drop, flat_map, length, map}
use Rattle.tape_core.specs.declared.entry.Entry.{Entry}
use Rattle.day_journal.specs.Journals.{IsRead, ReaderState, read_next, reader_at}
use Rattle.day_journal.specs.GroupReading.{told_count}
use Rattle.day_journal.specs.declared.group_fault.GroupFault.{GroupFault}
use Rattle.day_journal.specs.declared.group_fault.GroupFault.TheVariants.{Torn}
use Rattle.day_journal.specs.declared.header_reading.JournalHeader.{JournalHeader}
use Rattle.journal_start.specs.PastLines.{no_entry, with_entries}
use Rattle.journal_start.specs.declared.journal_groups.JournalGroups.{JournalGroups}
use Rattle.journal_start.specs.declared.journal_refusal.JournalRefusal.TheVariants.{Damaged}
use Rattle.journal_start.specs.declared.past_line.PastLine.{PastLine}
use Rattle.journal_start.specs.declared.start_fault.StartFault.{StartFault}
use Rattle.journal_start.specs.declared.start_fault.StartFault.TheVariants.{Refused, OutOfMemory}

-- these groups were read one after the other
unfoldable pub ReadsGroups : List (List Entry) → ReaderState → ReaderState → Type 0
ReadsGroups [] old new = new ≡ old
ReadsGroups (es ∷ groups) old new = (mid : ReaderState) × IsRead old es mid × ReadsGroups groups mid new

-- the entries of groups
abbrev pub entries_of : List (List Entry) → List Entry
entries_of groups = flat_map (λ es. es) groups

-- the reader is at the end of a journal's whole bytes: nothing is left, or a group that was cut off
abbrev pub EndsAt : ℕ → ℕ → ReaderState → Type 0
EndsAt len whole r = ((r.rest ≡ []) × (whole ≡ len)) ⊎ ((read_next r ≡ Err Torn) × (whole ≡ r.total - length r.rest))

-- groups were read to the end of a journal of `len` bytes, and the lines came as far as their entries say
pub record GivesGroups (len whole : ℕ) (old : ReaderState) (before : List PastLine) (new : ReaderState) (after : List PastLine) : Type 0 where
  pub groups : List (List Entry)
  pub read : ReadsGroups groups old new
  pub end : EndsAt len whole new
  pub lines : after ≡ map (λ line. with_entries line (entries_of groups)) before

-- what is known of a journal's groups after they were read
pub record HasGroups (had : JournalGroups) (header : JournalHeader) (bytes : List ℕ) : Type 0 where
  pub end : ReaderState
  pub given : GivesGroups (length bytes) had.whole (reader_at header.day.session 0 header.digest header.len (drop header.len bytes))
      (map no_entry header.day.listing.participants) end had.lines.items
  pub held : had.held ≡ end.held
  pub digest : had.digest ≡ end.digest

-- the group behind those that were read is damaged: it should begin with this entry, and have this many
pub record IsDamaged (first : ℕ) (count : Option ℕ) (start : ReaderState) : Type 0 where
  pub groups : List (List Entry)
  pub at : ReaderState
  pub fault : GroupFault
  pub read : ReadsGroups groups start at
  pub next : read_next at ≡ Err fault
  pub no_cut : fault ≢ Torn
  pub first_is : first ≡ at.held + 1
  pub count_is : count ≡ told_count at.rest

-- why the groups from here on are refused
abbrev pub RefusesGroups : StartFault → ReaderState → Type 0
RefusesGroups (Refused (Damaged first count)) start = IsDamaged first count start
RefusesGroups OutOfMemory start = Unit {0}
RefusesGroups _ start = ⊥
