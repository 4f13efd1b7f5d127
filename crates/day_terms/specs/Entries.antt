-- The lists of a day's file, read entry by entry.
use Rattle.std.specs.Prelude.{ℕ, suc, Bool, List, [], ◌∷◌, Option, Some, None, Result, Ok, Err}
use Rattle.toml.specs.Data.{Data, string, boolean, array, Items, no_items, item}
use Rattle.tape_types.specs.Names.{symbol_named}
use Rattle.tape_types.specs.Header.{participant_named}
use Rattle.day_terms.specs.Faults.{Fault, ◌>>=◌, empty, other_kind, out_of_range}
use Rattle.day_terms.specs.Kinds.{kind_of}
use Rattle.day_terms.specs.Numbers.{number_at}
use Rattle.day_terms.specs.declared.day_key.DayKey.{DayKey}
use Rattle.day_terms.specs.declared.day_key.DayKey.TheVariants.{Port}
use Rattle.day_terms.specs.declared.place.FilePlace.{FilePlace}
use Rattle.day_terms.specs.declared.place.FilePlace.TheVariants.{At, Entry}

-- a text
abbrev pub text_at : FilePlace → Data → Result (List ℕ) Fault
text_at place (string text) = Ok text
text_at place value = Err (other_kind place (kind_of value))

-- a boolean
abbrev pub boolean_at : FilePlace → Data → Result Bool Fault
boolean_at place (boolean is) = Ok is
boolean_at place value = Err (other_kind place (kind_of value))

-- what a text names, or the fault that it is out of range
abbrev pub or_out_of_range : {A : Type 0} → FilePlace → Option A → Result A Fault
or_out_of_range place (Some value) = Ok value
or_out_of_range place None = Err (out_of_range place)

-- a symbol by its name
abbrev pub symbol_at : FilePlace → Data → Result (List ℕ) Fault
symbol_at place value = do
  name ← text_at place value
  or_out_of_range place (symbol_named name)

-- a participant by its letter
abbrev pub participant_at : FilePlace → Data → Result ℕ Fault
participant_at place value = do
  name ← text_at place value
  or_out_of_range place (participant_named name)

-- a port
abbrev pub port_at : FilePlace → Data → Result ℕ Fault
port_at place value = number_at Port place value

-- each entry, of which the first is the n-th of its list
abbrev pub each_entry : {A : Type 0} → (FilePlace → Data → Result A Fault) → DayKey → ℕ → Items → Result (List A) Fault
each_entry entry key n no_items = Ok []
each_entry entry key n (item value items) = do
  first ← entry (Entry key n) value
  others ← each_entry entry key (suc n) items
  Ok (first ∷ others)

-- the entries of the list at a key, which has one or more
abbrev pub entries_at : {A : Type 0} → (FilePlace → Data → Result A Fault) → DayKey → Data → Result (List A) Fault
entries_at entry key (array no_items) = Err (empty key)
entries_at entry key (array (item value items)) = each_entry entry key 1 (item value items)
entries_at entry key value = Err (other_kind (At key) (kind_of value))
