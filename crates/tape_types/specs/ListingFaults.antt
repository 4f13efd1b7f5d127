-- The number and the name of each listing fault.
use Rattle.std.specs.Prelude.{ℕ, List, codes}
use Rattle.tape_types.specs.declared.listing_fault.ListingFault.{ListingFault}
use Rattle.tape_types.specs.declared.listing_fault.ListingFault.TheVariants.{Empty, TooMany, Repeated, OutOfMemory}

-- the number of a fault
abbrev pub listing_fault_code : ListingFault → ℕ
listing_fault_code Empty = 1
listing_fault_code TooMany = 2
listing_fault_code Repeated = 3
listing_fault_code OutOfMemory = 4

-- the name of a fault, as it is printed
abbrev pub listing_fault_name : ListingFault → List ℕ
listing_fault_name Empty = codes "Empty"
listing_fault_name TooMany = codes "TooMany"
listing_fault_name Repeated = codes "Repeated"
listing_fault_name OutOfMemory = codes "OutOfMemory"
