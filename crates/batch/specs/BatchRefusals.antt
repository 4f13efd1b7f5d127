-- Defines the number and the name of each refusal of a line.
use Rattle.std.specs.Prelude.{ℕ, List, codes}
use Rattle.reports.specs.Faults.{message_fault_code, message_fault_name}
use Rattle.tape_core.specs.Refusals.{refusal_code, refusal_name}
use Rattle.batch.specs.declared.batch_refusal.BatchRefusal.{BatchRefusal}
use Rattle.batch.specs.declared.batch_refusal.BatchRefusal.TheVariants.{BadLine, BadMessage, ExtraBytes, Refused}

-- the number of a refusal
abbrev pub batch_refusal_code : BatchRefusal → ℕ
batch_refusal_code BadLine = 22
batch_refusal_code (BadMessage fault) = message_fault_code fault
batch_refusal_code ExtraBytes = 23
batch_refusal_code (Refused refusal) = refusal_code refusal

-- the name of a refusal, as it is printed
abbrev pub batch_refusal_name : BatchRefusal → List ℕ
batch_refusal_name BadLine = codes "BadLine"
batch_refusal_name (BadMessage fault) = message_fault_name fault
batch_refusal_name ExtraBytes = codes "ExtraBytes"
batch_refusal_name (Refused refusal) = refusal_name refusal
