-- The number and the name of each fault of a target.
use Rattle.std.specs.Prelude.{ℕ, List, codes}
use Rattle.corrections.specs.declared.target_fault.TargetFault.{TargetFault}
use Rattle.corrections.specs.declared.target_fault.TargetFault.TheVariants.{NoSuchReport, OtherSymbol, Cancelled, Standing}

-- the number of a fault of a target, with which a refusal is answered
abbrev pub target_fault_code : TargetFault → ℕ
target_fault_code NoSuchReport = 37
target_fault_code OtherSymbol = 38
target_fault_code Cancelled = 39
target_fault_code Standing = 43

-- the name of a fault of a target, as it is printed
abbrev pub target_fault_name : TargetFault → List ℕ
target_fault_name NoSuchReport = codes "NoSuchReport"
target_fault_name OtherSymbol = codes "OtherSymbol"
target_fault_name Cancelled = codes "Cancelled"
target_fault_name Standing = codes "Standing"
