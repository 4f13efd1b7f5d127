-- The listing that a day's symbols and participants make, or its fault.
use Rattle.std.specs.Prelude.{ℕ, suc, List, [], ◌∷◌, Option, Some, None, Result, Ok, Err}
use Rattle.tape_types.specs.Names.{Names, names_fault, symbol_named}
use Rattle.tape_types.specs.declared.listing_fault.ListingFault.{ListingFault}
use Rattle.day_terms.specs.Days.{NamedSymbols, in_file, listed}
use Rattle.day_terms.specs.Entries.{or_out_of_range}
use Rattle.day_terms.specs.Faults.{Fault, ◌>>=◌, names}
use Rattle.day_terms.specs.Lines.{file_lines}
use Rattle.day_terms.specs.declared.place.FilePlace.TheVariants.{Line}

-- the symbol of each line, of which the first is the n-th of its file
abbrev pub each_line : ℕ → List (List ℕ) → Result (List (List ℕ)) Fault
each_line n [] = Ok []
each_line n (line ∷ lines) = do
  symbol ← or_out_of_range (Line n) (symbol_named line)
  symbols ← each_line (suc n) lines
  Ok (symbol ∷ symbols)

-- the symbols of a file
abbrev pub file_symbols : List ℕ → Result (List (List ℕ)) Fault
file_symbols text = each_line 1 (file_lines text)

-- the listing of these names, or its fault
abbrev pub listing_by : Option ListingFault → Names → Result Names Fault
listing_by None listing = Ok listing
listing_by (Some fault) listing = Err (names fault)

-- the listing of these names
unfoldable pub listing_of : List (List ℕ) → List ℕ → Result Names Fault
listing_of symbols participants = listing_by (names_fault symbols participants) (record { symbols = symbols; participants = participants })

-- the listing of a day, whose symbols may be in a file of this text
abbrev pub listing_in : NamedSymbols → List ℕ → List ℕ → Result Names Fault
listing_in (listed symbols) participants text = listing_of symbols participants
listing_in (in_file name) participants text = do
  symbols ← file_symbols text
  listing_of symbols participants
