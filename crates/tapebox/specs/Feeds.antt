-- The statuses of a running day, and what is written before each.
use Rattle.std.specs.Prelude.{◌≡◌, ◌≢◌, ◌<◌, ◌⊎◌, ℕ, Bool, true, false, List, Option, None, Result, Ok, Err, IfErr, IfOk, IfSome, OnOk}
use Rattle.tape_types.specs.Names.{Names}
use Rattle.sale_matrix.specs.declared.matrix.Matrix.{Matrix}
use Rattle.command_line.specs.Statuses.{status_code}
use Rattle.command_line.specs.declared.status.Status.{Status}
use Rattle.command_line.specs.declared.status.Status.TheVariants as status
use Rattle.desk_words.specs.RunStatuses.{fault_status}
use Rattle.day_control.specs.declared.control_fault.ControlFault.{ControlFault}
use Rattle.day_control.specs.declared.control_fault.ControlFault.TheVariants as control
use Rattle.feed_ends.specs.Faults.{fault_status as fault_code}
use Rattle.feed_ends.specs.Reports.{WritesItsReport}
use Rattle.feed_ends.specs.declared.fault.Fault.{Fault}
use Rattle.feed_ends.specs.declared.fault.Fault.TheVariants as fault
use Rattle.feed_follower.specs.Reported.{WritesReportOf, follow_fault}
use Rattle.feed_follower.specs.declared.follow_fault.FollowFault.{FollowFault}
use Rattle.live_feed.specs.declared.operated_day.LiveEnd.{LiveEnd}
use Rattle.tapebox.specs.Program.{IsFeedStatus}
use Rattle.tapebox.specs.declared.sockets.Unopened.{Unopened}
use Rattle.tapebox.specs.declared.sockets.Unopened.TheVariants as unopened

-- ## Statuses

-- the fault of a day whose sockets are not open
abbrev pub unopened_fault : Unopened → Fault
unopened_fault (unopened.Socket why) = fault.Read
unopened_fault unopened.Memory = fault.Memory

-- the status of a day that was followed
abbrev pub follow_status : Result (Unit {0}) FollowFault → Status
follow_status (Ok done) = status.Done
follow_status (Err fault) = fault_status (follow_fault fault)

-- the status of a fault of a control socket
abbrev pub control_status : ControlFault → Status
control_status control.WriteFault = status.WriteFault
control_status control.OutOfMemory = status.OutOfMemory
control_status _ = status.ReadFault

-- a status of a command at a control socket that is not answered
abbrev pub IsControlStatus : Status → Type 0
IsControlStatus s = (s ≡ status.ReadFault) ⊎ (s ≡ status.WriteFault) ⊎ (s ≡ status.OutOfMemory)

-- ## What is written

-- a day of this listing, matrix and limit was run and ended like this
pub record EndsDay {W : Type 0} (listing : Names) (matrix : Matrix) (limit : ℕ) (writer_old writer_new : W) (old new : Option (List ℕ))
    (end : LiveEnd) : Type 0 where
  pub report : end.is_whole ≡ true → WritesItsReport listing matrix limit old new
  pub whole : OnOk end.result (end.is_whole ≡ true)
  pub unwritten : end.is_whole ≡ false → IfErr end.result (λ fault. 4 < fault_code fault → writer_new ≡ writer_old)

-- the day of a file was run and ended with this status: if all is done, its whole report was written; if its journal is another
-- day's, nothing was; after a fault other than of a read or a write the report was written whole, or nothing was
pub record RunsDay {W : Type 0} (WritesReport : Option (List ℕ) → Option (List ℕ) → Type 0) (ended : Status) (writer_old writer_new : W)
    (old new : Option (List ℕ)) : Type 0 where
  pub known : (ended ≡ status.Bad) ⊎ IsFeedStatus (status_code ended)
  pub report : ended ≡ status.Done → WritesReport old new
  pub refused : ended ≡ status.Bad → writer_new ≡ writer_old
  pub whole : 4 < status_code ended → (writer_new ≡ writer_old) ⊎ WritesReport old new

-- the day of a file was followed and ended with this status: if all is done, the whole report was written; a report of some
-- number of entries is whole, and there is none of a day that did not end, unless it is wanted of the entries held
pub record FollowsDay {W : Type 0} (listing : Names) (matrix : Matrix) (limit : ℕ) (is_partial : Bool) (ended : Status) (writer_old writer_new : W)
    (old new : Option (List ℕ)) : Type 0 where
  pub reported : Option (Result ℕ Fault)
  pub known : IsFeedStatus (status_code ended)
  pub report : ended ≡ status.Done → WritesItsReport listing matrix limit old new
  pub whole : IfSome reported (λ made. IfOk made (λ count. WritesReportOf listing matrix limit count old new))
  pub unwritten : reported ≡ None → writer_new ≡ writer_old
  pub unmade : IfSome reported (λ made. IfErr made (λ why. why ≢ fault.Write → writer_new ≡ writer_old))
  pub unwanted : is_partial ≡ false → IfSome reported (λ made. IfOk made (λ count. ended ≡ status.Done))
