-- What a fault of writing is printed as.
use Rattle.std.specs.Prelude.{ℕ, List, codes}
use Rattle.whole_io.specs.declared.writing_fault.WritingFault.{WritingFault}
use Rattle.whole_io.specs.declared.writing_fault.WritingFault.TheVariants as write

-- why a text was not written whole
abbrev pub writing_fault_text : WritingFault → List ℕ
writing_fault_text write.OutOfMemory = codes "out of memory"
writing_fault_text write.WriteFault = codes "a write failed"
