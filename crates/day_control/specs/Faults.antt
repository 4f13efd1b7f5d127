-- Defines the statuses of faults.
use Rattle.std.specs.Prelude.{ℕ}
use Rattle.day_control.specs.declared.control_fault.ControlFault.{ControlFault}
use Rattle.day_control.specs.declared.control_fault.ControlFault.TheVariants.{OpenFolder, NoFolder, NotASocket, InUse, Unopened, Unanswered, CutOff, WriteFault, OutOfMemory}

-- the status of a fault
abbrev pub fault_status : ControlFault → ℕ
fault_status OpenFolder = 3
fault_status NoFolder = 3
fault_status NotASocket = 3
fault_status InUse = 3
fault_status Unopened = 3
fault_status Unanswered = 3
fault_status CutOff = 3
fault_status WriteFault = 4
fault_status OutOfMemory = 5
