-- The numbers of a day's file, each within the range of its key.
use Rattle.std.specs.Prelude.{ℕ, ℤ, pos, negsuc, Result, Ok, Err, nat_le, ◌&&◌, if◌then◌else◌}
use Rattle.toml.specs.Data.{Data, integer}
use Rattle.day_terms.specs.Faults.{Fault, other_kind, out_of_range}
use Rattle.day_terms.specs.Keys.{key_least, key_most}
use Rattle.day_terms.specs.Kinds.{kind_of}
use Rattle.day_terms.specs.declared.day_key.DayKey.{DayKey}
use Rattle.day_terms.specs.declared.place.FilePlace.{FilePlace}

-- a number within the range of a key
abbrev pub in_range : DayKey → FilePlace → ℤ → Result ℕ Fault
in_range key place (pos number) =
    if nat_le (key_least key) number && nat_le number (key_most key) then Ok number else Err (out_of_range place)
in_range key place (negsuc number) = Err (out_of_range place)

-- the number of a value, within the range of a key
abbrev pub number_at : DayKey → FilePlace → Data → Result ℕ Fault
number_at key place (integer number) = in_range key place number
number_at key place value = Err (other_kind place (kind_of value))
