-- The fields of a header row, one after another.
use Rattle.std.proofs.Common.{◌≡◌, ◌+◌, ◌∙◌, ◌∷◌, [], ℕ, zero, suc, List, Some, None, true, false, refl, ap, arith, drop}
use Rattle.std.specs.List.{position_from}
use Rattle.std.specs.Str.{bytes_eq}
use Rattle.csv_messages.specs.Columns.{fault_from, header_fault, name_fault, place_of}
use Rattle.csv_messages.specs.declared.column_fault.ColumnFault.{ColumnFault}
use Rattle.csv.specs.Records.{field_at}

-- a field stands in front of those behind it
pub drop-field : (fields : List (List ℕ)) (i : ℕ) (field : List ℕ) → field_at fields i ≡ Some field → drop i fields ≡ field ∷ drop (i + 1) fields
unfolding field_at
drop-field [] i field there = cc
drop-field (x ∷ xs) zero field there = cc
drop-field (x ∷ xs) (suc i) field there =
    let one : suc i + 1 ≡ suc (i + 1) = omega arith in
    rw one (drop-field xs i field there)

-- there is nothing if there is no field
pub drop-none : (fields : List (List ℕ)) (i : ℕ) → field_at fields i ≡ None → drop i fields ≡ []
unfolding field_at
drop-none [] zero absent = refl
drop-none [] (suc i) absent = refl
drop-none (x ∷ xs) zero absent = cc
drop-none (x ∷ xs) (suc i) absent = drop-none xs i absent

-- ## The first place of a name

-- the first place is that among the names from here on
abbrev pub IsAmongRest : List (List ℕ) → List ℕ → ℕ → Type 0
IsAmongRest names name place = place_of names name ≡ position_from (λ other. bytes_eq other name) place (drop place names)

-- no name is left
pub place_of-none : (names : List (List ℕ)) (name : List ℕ) (place : ℕ) → IsAmongRest names name place → field_at names place ≡ None → place_of names name ≡ None
place_of-none names name place rest absent = rest ∙ ap (position_from (λ other. bytes_eq other name) place) (drop-none names place absent)

-- the next name is the one
pub place_of-here : (names : List (List ℕ)) (name other : List ℕ) (place : ℕ) → IsAmongRest names name place → field_at names place ≡ Some other
    → bytes_eq other name ≡ true → place_of names name ≡ Some place
place_of-here names name other place rest there same =
    rest ∙ ap (position_from (λ other. bytes_eq other name) place) (drop-field names place other there) ∙ rw same refl

-- the next name is another
pub place_of-on : (names : List (List ℕ)) (name other : List ℕ) (place : ℕ) → IsAmongRest names name place → field_at names place ≡ Some other
    → bytes_eq other name ≡ false → IsAmongRest names name (place + 1)
place_of-on names name other place rest there same =
    rest ∙ ap (position_from (λ other. bytes_eq other name) place) (drop-field names place other there) ∙ rw same refl

-- ## The first fault of a header row

-- the first fault is that of the names from here on
abbrev pub IsFaultOfRest : List (List ℕ) → ℕ → Type 0
IsFaultOfRest names place = header_fault names ≡ fault_from names place (drop place names)

-- no name is left
pub header_fault-none : (names : List (List ℕ)) (place : ℕ) → IsFaultOfRest names place → drop place names ≡ [] → header_fault names ≡ None
unfolding fault_from
header_fault-none names place rest absent = rest ∙ ap (fault_from names place) absent

-- the next name is wrong
pub header_fault-here : (names : List (List ℕ)) (name : List ℕ) (place : ℕ) (fault : ColumnFault) → IsFaultOfRest names place → field_at names place ≡ Some name
    → name_fault names place name ≡ Some fault → header_fault names ≡ Some fault
unfolding fault_from
header_fault-here names name place fault rest there wrong = rest ∙ ap (fault_from names place) (drop-field names place name there) ∙ rw wrong refl

-- nothing is wrong with the next name
pub header_fault-on : (names : List (List ℕ)) (name : List ℕ) (place : ℕ) → IsFaultOfRest names place → field_at names place ≡ Some name
    → name_fault names place name ≡ None → IsFaultOfRest names (place + 1)
unfolding fault_from
header_fault-on names name place rest there fine = rest ∙ ap (fault_from names place) (drop-field names place name there) ∙ rw fine refl
