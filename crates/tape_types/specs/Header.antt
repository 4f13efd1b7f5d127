-- The listing of two texts of names: the symbols of one, and the participants of the other.
use Rattle.std.specs.Prelude.{ℕ, List, [], ◌∷◌, codes, Bool, ◌&&◌, nat_le, Option, Some, None, Result, Ok, Err, option_and_then, if◌then◌else◌}
use Rattle.std.specs.List.{slice_split}
use Rattle.std.specs.Option.{option_map}
use Rattle.memchr.specs.Find.{is_byte}
use Rattle.tape_types.specs.ListingFaults.{listing_fault_code, listing_fault_name}
use Rattle.tape_types.specs.Names.{Names, names_fault, symbol_named}
use Rattle.tape_types.specs.Ranges.{FIRST_PARTICIPANT, LAST_PARTICIPANT}
use Rattle.tape_types.specs.declared.header_fault.HeaderFault.{HeaderFault}
use Rattle.tape_types.specs.declared.header_fault.HeaderFault.TheVariants.{BadHeader, BadListing}
use Rattle.tape_types.specs.declared.listing_fault.ListingFault.{ListingFault}

-- the number of a fault
abbrev pub header_fault_code : HeaderFault → ℕ
header_fault_code BadHeader = 9
header_fault_code (BadListing fault) = listing_fault_code fault

-- the name of a fault, as it is printed
abbrev pub header_fault_name : HeaderFault → List ℕ
header_fault_name BadHeader = codes "BadHeader"
header_fault_name (BadListing fault) = listing_fault_name fault

-- the pieces of a text between single bytes that separate them
abbrev pub pieces_of : ℕ → List ℕ → List (List ℕ)
pieces_of separator text = slice_split (is_byte separator) text

-- the names of a text; an empty text has none
abbrev pub name_texts : ℕ → List ℕ → List (List ℕ)
name_texts separator [] = []
name_texts separator (byte ∷ bytes) = pieces_of separator (byte ∷ bytes)

-- whether a byte is a capital letter, which is what a participant can be
abbrev pub is_capital : ℕ → Bool
is_capital b = nat_le FIRST_PARTICIPANT b && nat_le b LAST_PARTICIPANT

-- a participant by its name: one capital letter
abbrev pub participant_named : List ℕ → Option ℕ
participant_named [] = None
participant_named (letter ∷ []) = if is_capital letter then Some letter else None
participant_named (letter ∷ next ∷ rest) = None

-- all that the texts name, or none if one names nothing
abbrev pub all_named : {A : Type 0} → (List ℕ → Option A) → List (List ℕ) → Option (List A)
all_named named [] = Some []
all_named named (text ∷ texts) =
    option_and_then (λ name. option_map (λ names. name ∷ names) (all_named named texts)) (named text)

-- the listing, if it has no fault
abbrev pub listing_by_fault : Option ListingFault → Names → Result Names HeaderFault
listing_by_fault None names = Ok names
listing_by_fault (Some fault) names = Err (BadListing fault)

-- the listing of two lists of names
abbrev pub listing_of : Option (List (List ℕ)) → Option (List ℕ) → Result Names HeaderFault
listing_of None participants = Err BadHeader
listing_of (Some symbols) None = Err BadHeader
listing_of (Some symbols) (Some participants) =
    listing_by_fault (names_fault symbols participants) (record { symbols = symbols; participants = participants })

-- the listing of a text of symbols and one of participants, or the first thing wrong with them
unfoldable pub names_listing : ℕ → List ℕ → List ℕ → Result Names HeaderFault
names_listing separator symbols participants =
    listing_of (all_named symbol_named (name_texts separator symbols)) (all_named participant_named (name_texts separator participants))
