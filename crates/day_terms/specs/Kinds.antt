-- The kind of a TOML value, and its name.
use Rattle.std.specs.Prelude.{ℕ, List, codes}
use Rattle.toml.specs.Data.{Data, string, integer, float, boolean, datetime, array, table}
use Rattle.day_terms.specs.declared.kind.ValueKind.{ValueKind}
use Rattle.day_terms.specs.declared.kind.ValueKind.TheVariants as kinds

-- the kind of a value
abbrev pub kind_of : Data → ValueKind
kind_of (string _) = kinds.Text
kind_of (integer _) = kinds.Number
kind_of (float _) = kinds.Fraction
kind_of (boolean _) = kinds.Boolean
kind_of (datetime _) = kinds.Date
kind_of (array _) = kinds.List
kind_of (table _) = kinds.Table

-- the name of a kind, with an article
abbrev pub kind_text : ValueKind → List ℕ
kind_text kinds.Text = codes "a string"
kind_text kinds.Number = codes "a number"
kind_text kinds.Fraction = codes "a fraction"
kind_text kinds.Boolean = codes "a boolean"
kind_text kinds.Date = codes "a date"
kind_text kinds.List = codes "a list"
kind_text kinds.Table = codes "a table"
