-- With which status a day's journal is not opened, and what a running day has of it.
use Rattle.std.specs.Prelude.{◌≡◌, ◌⊎◌, ◌==◌, ℕ, Option, Some, None, if◌then◌else◌}
use Rattle.journal_start.specs.declared.journal_refusal.JournalRefusal.{JournalRefusal}
use Rattle.journal_start.specs.declared.journal_refusal.JournalRefusal.TheVariants.{HeaderDamaged, Damaged}
use Rattle.journal_start.specs.declared.start_fault.StartFault.{StartFault}
use Rattle.journal_start.specs.declared.start_fault.StartFault.TheVariants.{Refused, Unread, Unwritten, OutOfMemory}
use Rattle.journal_start.specs.declared.starting.Past.{Past}
use Rattle.live_feed.specs.declared.journal.Restored.{Restored}
use Rattle.command_line.specs.declared.status.Status.{Status}
use Rattle.command_line.specs.declared.status.Status.TheVariants as status
use Rattle.tapebox.specs.declared.journal_fault.JournalFileFault.{JournalFileFault}
use Rattle.tapebox.specs.declared.journal_fault.JournalFileFault.TheVariants as fault
use Rattle.tapebox.specs.declared.journal_held.Unheld.{Unheld}
use Rattle.tapebox.specs.declared.journal_held.Unheld.TheVariants.{Unopened}

-- ## Statuses

-- the status of a file that is not held
abbrev pub unheld_status : Unheld → Status
unheld_status (Unopened kind) = status.ReadFault
unheld_status _ = status.Bad

-- the status of a journal that is refused
abbrev pub refusal_status : JournalRefusal → Status
refusal_status HeaderDamaged = status.Disagrees
refusal_status (Damaged first count) = status.Disagrees
refusal_status _ = status.Bad

-- the status of a journal that was not started
abbrev pub start_status : StartFault → Status
start_status (Refused refusal) = refusal_status refusal
start_status (Unread kind) = status.ReadFault
start_status Unwritten = status.WriteFault
start_status OutOfMemory = status.OutOfMemory

-- the status of a journal that was not opened
abbrev pub journal_status : JournalFileFault → Status
journal_status (fault.Unheld unheld) = unheld_status unheld
journal_status (fault.Unstarted why cause) = start_status why

-- a status of a journal that was not opened
abbrev pub IsJournalStatus : Status → Type 0
IsJournalStatus s = (s ≡ status.Bad) ⊎ (s ≡ status.ReadFault) ⊎ (s ≡ status.WriteFault) ⊎ (s ≡ status.OutOfMemory) ⊎ (s ≡ status.Disagrees)

-- ## A day that is continued

-- what a running day has of what its journal had, which is nothing if it had no entry
abbrev pub restored_of : ℕ → Option Past → Option Restored
restored_of held None = None
restored_of held (Some past) =
    if held == 0 then None else Some (record { journal = past.journal; from = past.from; digest = past.digest })
