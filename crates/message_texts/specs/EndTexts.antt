-- Defines the status and the text of each end, and the number and the name of a line's fault.
use Rattle.std.specs.Prelude.{ℕ, List, ◌∷◌, ◌++◌, codes, decimal}
use Rattle.batch.specs.BatchRefusals.{batch_refusal_code, batch_refusal_name}
use Rattle.tape_types.specs.Header.{header_fault_code, header_fault_name}
use Rattle.message_texts.specs.declared.line_fault.LineFault.{LineFault}
use Rattle.message_texts.specs.declared.line_fault.LineFault.TheVariants.{Header, Message}
use Rattle.message_texts.specs.declared.text_end.TextEnd.{TextEnd}
use Rattle.message_texts.specs.declared.text_end.TextEnd.TheVariants.{Line, ReadFault, OutOfMemory, WriteFault}

-- the number of a line's fault
abbrev pub line_fault_code : LineFault → ℕ
line_fault_code (Header fault) = header_fault_code fault
line_fault_code (Message refusal) = batch_refusal_code refusal

-- the name of a line's fault
abbrev pub line_fault_name : LineFault → List ℕ
line_fault_name (Header fault) = header_fault_name fault
line_fault_name (Message refusal) = batch_refusal_name refusal

-- a line's fault by number and name
abbrev pub line_fault_text : LineFault → List ℕ
line_fault_text fault = decimal (line_fault_code fault) ++ (32 ∷ line_fault_name fault)

-- the status that the program ends with
abbrev pub end_status : TextEnd → ℕ
end_status (Line number fault) = 2
end_status ReadFault = 3
end_status WriteFault = 4
end_status OutOfMemory = 5

-- an end in words
abbrev pub end_text : TextEnd → List ℕ
end_text (Line number fault) = codes "line " ++ (decimal number ++ (codes ": " ++ line_fault_text fault))
end_text ReadFault = codes "a read failed"
end_text OutOfMemory = codes "out of memory"
end_text WriteFault = codes "a write failed"
