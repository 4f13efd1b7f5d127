-- Defines the listing of a header: the symbols on its first line, and the participants on its second.
use Rattle.std.specs.Prelude.{ℕ, List, Result}
use Rattle.tape_types.specs.Header.{names_listing}
use Rattle.tape_types.specs.Names.{Names}
use Rattle.tape_types.specs.declared.header_fault.HeaderFault.{HeaderFault}

-- the listing of the two lines of a header, whose names have single spaces between them
abbrev pub header_listing : List ℕ → List ℕ → Result Names HeaderFault
header_listing first second = names_listing 32 first second
