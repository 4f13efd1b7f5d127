-- The status of a run over sockets: `Done`, or that of its fault.
use Rattle.std.specs.Prelude.{Result, Ok, Err}
use Rattle.feed_ends.specs.declared.fault.Fault.{Fault}
use Rattle.feed_ends.specs.declared.fault.Fault.TheVariants as fault
use Rattle.command_line.specs.declared.status.Status.{Status}
use Rattle.command_line.specs.declared.status.Status.TheVariants as status

-- the status of a fault
abbrev pub fault_status : Fault → Status
fault_status fault.Read = status.ReadFault
fault_status fault.Write = status.WriteFault
fault_status fault.Memory = status.OutOfMemory
fault_status fault.Worker = status.NotStarted
fault_status fault.Disagrees = status.Disagrees

-- the status of a run
abbrev pub ended_status : Result (Unit {0}) Fault → Status
ended_status (Ok done) = status.Done
ended_status (Err fault) = fault_status fault
