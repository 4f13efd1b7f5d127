-- The faults and refusals by number and name.
use Rattle.std.specs.Prelude.{ℕ, List, codes}
use Rattle.retransmit.specs.declared.ask_fault.AskFault.{AskFault}
use Rattle.retransmit.specs.declared.ask_fault.AskFault.TheVariants.{ReadFault, WriteFault, BadAnswer, Refused, OutOfMemory}
use Rattle.retransmit.specs.declared.refusal.RequestRefusal.{RequestRefusal}
use Rattle.retransmit.specs.declared.refusal.RequestRefusal.TheVariants.{OtherSession, Beyond, BadSpan}

-- the number of a refusal, which is the byte that answers the request
abbrev pub refusal_code : RequestRefusal → ℕ
refusal_code OtherSession = 71
refusal_code Beyond = 72
refusal_code BadSpan = 73

-- the name of a refusal, as printed
abbrev pub refusal_name : RequestRefusal → List ℕ
refusal_name OtherSession = codes "OtherSession"
refusal_name Beyond = codes "Beyond"
refusal_name BadSpan = codes "BadSpan"

-- the number of a fault
abbrev pub ask_fault_code : AskFault → ℕ
ask_fault_code ReadFault = 74
ask_fault_code WriteFault = 75
ask_fault_code BadAnswer = 76
ask_fault_code (Refused refusal) = 77
ask_fault_code OutOfMemory = 78

-- the name of a fault, as printed
abbrev pub ask_fault_name : AskFault → List ℕ
ask_fault_name ReadFault = codes "ReadFault"
ask_fault_name WriteFault = codes "WriteFault"
ask_fault_name BadAnswer = codes "BadAnswer"
ask_fault_name (Refused refusal) = codes "Refused"
ask_fault_name OutOfMemory = codes "OutOfMemory"
