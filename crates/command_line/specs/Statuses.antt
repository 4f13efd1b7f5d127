-- The number and the message of each status with which the program ends.
use Rattle.std.specs.Prelude.{ℕ, List, [], codes}
use Rattle.command_line.specs.declared.status.Status.{Status}
use Rattle.command_line.specs.declared.status.Status.TheVariants.{Done, Differs, Bad, ReadFault, WriteFault, OutOfMemory, NotStarted, Disagrees}

-- the number that the program ends with
abbrev pub status_code : Status → ℕ
status_code Done = 0
status_code Differs = 1
status_code Bad = 2
status_code ReadFault = 3
status_code WriteFault = 4
status_code OutOfMemory = 5
status_code NotStarted = 6
status_code Disagrees = 7

-- the message of a fault that does not depend on what the input says
abbrev pub status_text : Status → List ℕ
status_text Done = []
status_text Differs = []
status_text Bad = []
status_text ReadFault = codes "tapebox: read fault\n"
status_text WriteFault = codes "tapebox: write fault\n"
status_text OutOfMemory = codes "tapebox: out of memory\n"
status_text NotStarted = codes "tapebox: worker not started\n"
status_text Disagrees = codes "tapebox: tape disagrees\n"
