-- Defines the columns that a readable tape has besides those of its messages. They are skipped if it is read as a table.
use Rattle.std.specs.Prelude.{ℕ, ◌++◌, Bool, List, [], ◌∷◌, codes}
use Rattle.std.specs.List.{list_any}
use Rattle.std.specs.Str.{bytes_eq}

-- the names of the tape's answer to a row
abbrev pub answer_names : List (List ℕ)
answer_names = codes "tape" ∷ codes "refused" ∷ []

-- the names of the figures of a row's symbol
abbrev pub figure_names : List (List ℕ)
figure_names = codes "open" ∷ codes "high" ∷ codes "low" ∷ codes "last" ∷ codes "volume" ∷ codes "trades" ∷ []

-- whether a column is one of these
unfoldable pub is_tape_column : List ℕ → Bool
is_tape_column name = list_any (bytes_eq name) (answer_names ++ figure_names)
