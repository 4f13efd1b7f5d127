-- Defines the place after the bytes of a text of rows that were read, and the field that it is in.
use Rattle.std.specs.Prelude.{ℕ, ◌+◌, ◌==◌, ◌||◌, Bool, List, fold, drop, take, position, Option, Some, None, if◌then◌else◌}
use Rattle.recorded_tapes.specs.declared.place.TextPlace.{TextPlace}

-- the place at the start of a text: in line 1, with no field and no byte before it
abbrev pub first_place : TextPlace
first_place = record { line = 1; column = 0; field = 0; read = 0 }

-- the place after one more byte: a line feed ends the line, and a comma the field
abbrev pub place_after : TextPlace → ℕ → TextPlace
place_after p byte =
    if byte == 10 then record { line = p.line + 1; column = 0; field = p.read + 1; read = p.read + 1 }
    else if byte == 44 then record { line = p.line; column = p.column + 1; field = p.read + 1; read = p.read + 1 }
    else record { line = p.line; column = p.column; field = p.field; read = p.read + 1 }

-- the place after a text
abbrev pub place_behind : List ℕ → TextPlace
place_behind text = fold place_after first_place text

-- the field that a text ends in, as far as it was read
abbrev pub begun_field : List ℕ → List ℕ
begun_field text = drop (place_behind text).field text

-- whether a byte ends a field
abbrev pub ends_field : ℕ → Bool
ends_field byte = (byte == 10) || (byte == 44)

-- the bytes before a place, or all if there is none
abbrev pub bytes_before : Option ℕ → List ℕ → List ℕ
bytes_before None text = text
bytes_before (Some place) text = take place text

-- where the field that a text begins in ends
abbrev pub end_of_field : List ℕ → Option ℕ
end_of_field text = position ends_field text

-- the rest of the field that a text begins in
abbrev pub rest_of_field : List ℕ → List ℕ
rest_of_field text = bytes_before (end_of_field text) text
