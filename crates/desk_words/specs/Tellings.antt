-- The program's own lines on standard error.
use Rattle.std.specs.Prelude.{◌++◌, ℕ, List, Option, codes}
use Rattle.whole_io.specs.Lines.{AreLines}
use Rattle.whole_io.specs.Writing.{WritesPrefix}

-- a line of the program's own: its name, a text and a line feed
abbrev pub told_line : List ℕ → List ℕ
told_line what = codes "tapebox: " ++ what ++ codes "\n"

-- the line about bad arguments
abbrev pub bad_arguments_line : List ℕ
bad_arguments_line = codes "tapebox: bad arguments\n"

-- the line about bad arguments was said, and then lines that help, or a prefix of these
abbrev pub SaysBadArguments : Option (List ℕ) → Option (List ℕ) → Type 0
SaysBadArguments old new = (more : List ℕ) × AreLines more × WritesPrefix (bad_arguments_line ++ more) old new
