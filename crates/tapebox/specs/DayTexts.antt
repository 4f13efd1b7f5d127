-- What the program says of a day's file, with which status, and what it takes from the file.
use Rattle.std.specs.Prelude.{◌≡◌, ◌⊎◌, ℕ, Bool, List, Option, option_map, string_bytes}
use Rattle.command_line.specs.Statuses.{status_text}
use Rattle.command_line.specs.declared.status.Status.{Status}
use Rattle.command_line.specs.declared.status.Status.TheVariants as status
use Rattle.whole_io.specs.Lines.{WritesLines}
use Rattle.whole_io.specs.Writing.{WritesPrefix}
use Rattle.day_terms.specs.Days.{ControlPlace, FileDay, at_path, at_port}
use Rattle.day_terms.specs.declared.day_fault.DayFault.{DayFault}
use Rattle.day_terms.specs.declared.day_fault.DayFault.TheVariants.{OutOfMemory}
use Rattle.day_control.specs.declared.place.ControlPlace.{ControlPlace as Place}
use Rattle.day_control.specs.declared.place.ControlPlace.TheVariants as place
use Rattle.tapebox.specs.Files.{beside_path}
use Rattle.tapebox.specs.declared.journal_place.JournalPlace.{JournalPlace}

-- the status of a day's file with a fault: it is bad, unless memory ran out
abbrev pub day_fault_status : DayFault → Status
day_fault_status OutOfMemory = status.OutOfMemory
day_fault_status _ = status.Bad

-- what is said of a day's file with a fault: a line, and if memory ran out the same as for every command
abbrev pub SaysFault : DayFault → Option (List ℕ) → Option (List ℕ) → Type 0
SaysFault OutOfMemory old new = WritesPrefix (status_text status.OutOfMemory) old new
SaysFault _ old new = WritesLines old new

-- the status if a day's file, or that of its symbols, has no day
abbrev pub IsUnreadStatus : Status → Type 0
IsUnreadStatus s = (s ≡ status.Bad) ⊎ (s ≡ status.ReadFault) ⊎ (s ≡ status.OutOfMemory)

-- the control socket that a day's file of this name names: a path starts at the file's folder
abbrev pub control_by : List ℕ → ControlPlace → ControlPlace
control_by file (at_port port) = at_port port
control_by file (at_path path) = at_path (beside_path path file)

-- where a journal is, and whether it is synced
pub record NamedJournal : Type 0 where
  pub path : List ℕ
  pub is_synced : Bool

-- the journal that a day's file of this name names: a path starts at the file's folder
abbrev pub journal_by : List ℕ → FileDay → Option NamedJournal
journal_by file day = option_map (λ path. record { path = beside_path path file; is_synced = day.journal_sync }) day.journal

-- the journal, as it is opened
abbrev pub journal_view : JournalPlace → NamedJournal
journal_view place = record { path = string_bytes place.path; is_synced = place.is_synced }

-- the control socket, as it is opened
abbrev pub place_view : Place → ControlPlace
place_view (place.Port port) = at_port port
place_view (place.Path path) = at_path (string_bytes path)
