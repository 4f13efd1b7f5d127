-- The names of the kinds.
use Rattle.std.specs.Prelude.{ℕ, ◌==◌, List, [], ◌∷◌, Option, Some, None, codes, if◌then◌else◌}
use Rattle.std.specs.Str.{bytes_eq}
use Rattle.csv_messages.specs.declared.kind.Kind.{Kind}
use Rattle.csv_messages.specs.declared.kind.Kind.TheVariants.{Report, Cancel, Correct, Reinstate}

-- the letter of a kind, as the messages have it: `R`, `X`, `C` or `S`
abbrev pub kind_letter : Kind → ℕ
kind_letter Report = 82
kind_letter Cancel = 88
kind_letter Correct = 67
kind_letter Reinstate = 83

-- the word of a kind
abbrev pub kind_word : Kind → List ℕ
kind_word Report = codes "report"
kind_word Cancel = codes "cancel"
kind_word Correct = codes "correct"
kind_word Reinstate = codes "reinstate"

-- the kind of a letter
abbrev pub kind_of_letter : ℕ → Option Kind
kind_of_letter letter =
    if letter == kind_letter Report then Some Report
    else if letter == kind_letter Cancel then Some Cancel
    else if letter == kind_letter Correct then Some Correct
    else if letter == kind_letter Reinstate then Some Reinstate
    else None

-- the kind of a word
abbrev pub kind_of_word : List ℕ → Option Kind
kind_of_word word =
    if bytes_eq word (kind_word Report) then Some Report
    else if bytes_eq word (kind_word Cancel) then Some Cancel
    else if bytes_eq word (kind_word Correct) then Some Correct
    else if bytes_eq word (kind_word Reinstate) then Some Reinstate
    else None

-- the kind that a text names, by a letter or a word
abbrev pub kind_of : List ℕ → Option Kind
kind_of [] = kind_of_word []
kind_of (letter ∷ []) = kind_of_letter letter
kind_of (letter ∷ next ∷ rest) = kind_of_word (letter ∷ next ∷ rest)
