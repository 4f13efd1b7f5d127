-- The ends of a table by the program's status and in words.
use Rattle.std.specs.Prelude.{ℕ, List, codes}
use Rattle.tape_types.specs.declared.listing_fault.ListingFault.{ListingFault}
use Rattle.tape_types.specs.declared.listing_fault.ListingFault.TheVariants as listing
use Rattle.csv_messages.specs.FaultLines.{table_fault_text}
use Rattle.csv_messages.specs.declared.table_fault.TableFault.{TableFault}
use Rattle.csv_messages.specs.declared.table_fault.TableFault.TheVariants.{Header, NoRow, Row, ReadFault, OutOfMemory as TableOutOfMemory}
use Rattle.csv_days.specs.declared.table_end.TableEnd.{TableEnd}
use Rattle.csv_days.specs.declared.table_end.TableEnd.TheVariants.{Table, Listing, OutOfMemory, WriteFault}

-- the status of a table's fault
abbrev pub table_fault_status : TableFault → ℕ
table_fault_status (Header fault) = 2
table_fault_status NoRow = 2
table_fault_status (Row number fault) = 2
table_fault_status ReadFault = 3
table_fault_status TableOutOfMemory = 5

-- the status of names that make no listing
abbrev pub listing_fault_status : ListingFault → ℕ
listing_fault_status listing.Empty = 2
listing_fault_status listing.TooMany = 2
listing_fault_status listing.Repeated = 2
listing_fault_status listing.OutOfMemory = 5

-- the status that the program ends with
abbrev pub end_status : TableEnd → ℕ
end_status (Table fault) = table_fault_status fault
end_status (Listing fault) = listing_fault_status fault
end_status OutOfMemory = 5
end_status WriteFault = 4

-- names that make no listing, in words
abbrev pub listing_fault_text : ListingFault → List ℕ
listing_fault_text listing.Empty = codes "the table has no row"
listing_fault_text listing.TooMany = codes "the table has more than 4096 symbols"
listing_fault_text listing.Repeated = codes "a name stands twice in the listing"
listing_fault_text listing.OutOfMemory = codes "out of memory"

-- an end in words
abbrev pub end_text : TableEnd → List ℕ
end_text (Table fault) = table_fault_text fault
end_text (Listing fault) = listing_fault_text fault
end_text OutOfMemory = codes "out of memory"
end_text WriteFault = codes "a write failed"
