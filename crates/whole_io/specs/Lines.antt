-- Lines for an operator.
use Rattle.std.specs.Prelude.{◌≡◌, ◌≢◌, ◌++◌, ◌∷◌, [], ℕ, List, Option, codes}
use Rattle.std.specs.List.{All, concat}
use Rattle.whole_io.specs.Writing.{WritesPrefix}

-- no byte is a line feed
abbrev pub HasNoLineFeed : List ℕ → Type 0
HasNoLineFeed words = All (λ byte. byte ≢ 10) words

-- a line: the name of the program, words, and its only line feed
abbrev pub IsLine : List ℕ → Type 0
IsLine line = (words : List ℕ) × HasNoLineFeed words × (line ≡ codes "tapebox: " ++ words ++ 10 ∷ [])

-- a text of such lines
abbrev pub AreLines : List ℕ → Type 0
AreLines text = (lines : List (List ℕ)) × All IsLine lines × (text ≡ concat lines)

-- known bytes grow by a prefix of such a text
abbrev pub WritesLines : Option (List ℕ) → Option (List ℕ) → Type 0
WritesLines old new = (text : List ℕ) × AreLines text × WritesPrefix text old new
