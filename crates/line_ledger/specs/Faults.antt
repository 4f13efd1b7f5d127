-- The number and the name of each error and refusal.
use Rattle.std.specs.Prelude.{ℕ, List, codes}
use Rattle.tape_core.specs.Refusals.{refusal_code, refusal_name}
use Rattle.line_ledger.specs.declared.line_refusal.LineRefusal.{LineRefusal}
use Rattle.line_ledger.specs.declared.line_refusal.LineRefusal.TheVariants.{Behind, Refused}
use Rattle.line_ledger.specs.declared.open_fault.OpenFault.{OpenFault}
use Rattle.line_ledger.specs.declared.open_fault.OpenFault.TheVariants.{NotEmpty, OutOfMemory}
use Rattle.line_ledger.specs.declared.publish_fault.PublishFault.{PublishFault}
use Rattle.line_ledger.specs.declared.publish_fault.PublishFault.TheVariants.{Unpublished, OutOfMemory as PublishOutOfMemory}
use Rattle.line_ledger.specs.declared.view_fault.ViewFault.{ViewFault}
use Rattle.line_ledger.specs.declared.view_fault.ViewFault.TheVariants.{UnknownSymbol, Behind as ViewBehind}

-- the number of a line's refusal
abbrev pub line_refusal_code : LineRefusal → ℕ
line_refusal_code Behind = 94
line_refusal_code (Refused refusal) = refusal_code refusal

-- the name of a line's refusal, as it is printed
abbrev pub line_refusal_name : LineRefusal → List ℕ
line_refusal_name Behind = codes "Behind"
line_refusal_name (Refused refusal) = refusal_name refusal

-- the number of a fault of an opening
abbrev pub open_fault_code : OpenFault → ℕ
open_fault_code NotEmpty = 7
open_fault_code OutOfMemory = 8

-- the name of a fault of an opening, as it is printed
abbrev pub open_fault_name : OpenFault → List ℕ
open_fault_name NotEmpty = codes "NotEmpty"
open_fault_name OutOfMemory = codes "OutOfMemory"

-- the number of a fault of a view
abbrev pub view_fault_code : ViewFault → ℕ
view_fault_code UnknownSymbol = 36
view_fault_code ViewBehind = 94

-- the name of a fault of a view, as it is printed
abbrev pub view_fault_name : ViewFault → List ℕ
view_fault_name UnknownSymbol = codes "UnknownSymbol"
view_fault_name ViewBehind = codes "Behind"

-- the number of a fault of a publication
abbrev pub publish_fault_code : PublishFault → ℕ
publish_fault_code (Unpublished number) = 81
publish_fault_code PublishOutOfMemory = 82

-- the name of a fault of a publication, as it is printed
abbrev pub publish_fault_name : PublishFault → List ℕ
publish_fault_name (Unpublished number) = codes "Unpublished"
publish_fault_name PublishOutOfMemory = codes "OutOfMemory"
