-- The keys and the values of a table as a day's file reads them.
use Rattle.std.proofs.Common.{◌≡◌, ◌==◌, false, ℕ, List, [], ◌∷◌, length, String, Global, Some, None, Result, Ok, Err, refl, ap, inl, inr}
use Rattle.std.proofs.lemmas.Bool.{cases_Bool}
use Rattle.std.proofs.lemmas.Str.{IsUtf8-from_is_utf8, is_utf8-from_IsUtf8}
use Rattle.std.specs.Prelude.{string_bytes, if◌then◌else◌}
use Rattle.std.specs.Str.{IsUtf8, is_utf8}
use Rattle.std.specs.Map.{keys_of}
use Rattle.toml.specs.Data.{Data, Members, array, as_array, boolean, datetime, float, integer, string, table}
use Rattle.toml.specs.Parse.{parse_document}
use Rattle.toml.specs.View.{items_view, members_view}
use Rattle.toml.specs.declared.value.Value.{Value}
use Rattle.day_terms.specs.Entries.{each_entry, entries_at}
use Rattle.day_terms.specs.Faults.{Fault, syntax, unknown}
use Rattle.day_terms.specs.Keys.{is_key}
use Rattle.day_terms.specs.Tables.{known_keys, table_of}
use Rattle.day_terms.specs.declared.day_key.DayKey.{DayKey}
use Rattle.day_terms.specs.declared.place.FilePlace.{FilePlace}

-- all names are keys, or the fault of the first that is not
abbrev pub known_names : List (String Global) → Result (Unit {0}) Fault
known_names [] = Ok tt
known_names (name ∷ names) = if is_key (string_bytes name) then known_names names else Err (unknown (string_bytes name))

-- the names of a table's entries
pub known_names_all : (entries : List (String Global × Value)) → known_names (keys_of entries) ≡ known_keys (members_view entries)
known_names_all [] = refl
known_names_all (entry ∷ entries) = ap (λ (others : Result (Unit {0}) Fault). if is_key (string_bytes entry.0) then others else Err (unknown (string_bytes entry.0))) (known_names_all entries)

-- the entries of a value that is a list with one or more
pub entries_at_list : {A : Type 0} (entry : FilePlace → Data → Result A Fault) (key : DayKey) (value : Data) (items : List Value)
    → Some (items_view items) ≡ as_array value → (length items == 0) ≡ false → each_entry entry key 1 (items_view items) ≡ entries_at entry key value
entries_at_list entry key (array list) [] is some = absurd (cc some)
entries_at_list entry key (array list) (one ∷ items) is some = let same : items_view (one ∷ items) ≡ list = cc is in rw (← same) refl
entries_at_list entry key (string _) items is some = absurd (cc is)
entries_at_list entry key (integer _) items is some = absurd (cc is)
entries_at_list entry key (float _) items is some = absurd (cc is)
entries_at_list entry key (boolean _) items is some = absurd (cc is)
entries_at_list entry key (datetime _) items is some = absurd (cc is)
entries_at_list entry key (table _) items is some = absurd (cc is)

-- a text that is a table is read as it
pub table_read : (text : List ℕ) (read : Members) → IsUtf8 text → parse_document text ≡ Some read → table_of text ≡ Ok read
unfolding table_of
table_read text read utf8 parsed = rw (is_utf8-from_IsUtf8 text utf8, parsed) refl

-- a text that is no table is a fault of syntax
pub table_refused : (text : List ℕ) → (IsUtf8 text → parse_document text ≡ None) → table_of text ≡ Err syntax
unfolding table_of
table_refused text none = elim (cases_Bool (is_utf8 text)) [
  | inl is ↦ rw (is, none (IsUtf8-from_is_utf8 text is)) refl
  | inr isnt ↦ rw isnt refl
]
