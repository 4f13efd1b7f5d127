-- The table of a day's file: its text, its keys and the value at a key.
use Rattle.std.specs.Prelude.{ℕ, List, Option, Some, None, Result, Ok, Err, if◌then◌else◌}
use Rattle.std.specs.Str.{is_utf8}
use Rattle.toml.specs.Data.{Data, Members, no_members, member, get_member}
use Rattle.toml.specs.Parse.{parse_document}
use Rattle.day_terms.specs.Faults.{Fault, missing, syntax, unknown}
use Rattle.day_terms.specs.Keys.{is_key, key_text}
use Rattle.day_terms.specs.declared.day_key.DayKey.{DayKey}

-- a value, or this fault if there is none
abbrev pub or_fault : {A : Type 0} → Fault → Option A → Result A Fault
or_fault fault (Some value) = Ok value
or_fault fault None = Err fault

-- the table of a text
unfoldable pub table_of : List ℕ → Result Members Fault
table_of text = if is_utf8 text then or_fault syntax (parse_document text) else Err syntax

-- all keys are known, or the fault of the first that is not
abbrev pub known_keys : Members → Result (Unit {0}) Fault
known_keys no_members = Ok tt
known_keys (member name value others) = if is_key name then known_keys others else Err (unknown name)

-- the value at a key that a day has to have
unfoldable pub required : DayKey → Members → Result Data Fault
required key table = or_fault (missing key) (get_member (key_text key) table)
