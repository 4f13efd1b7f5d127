-- The arguments of bytes, in order, and how an argument is handed over.
use Rattle.std.specs.Prelude.{◌≡◌, ◌++◌, ◌∷◌, ℕ, List, [], String, string_bytes}
use Rattle.std.specs.Global.{Global}
use Rattle.tape_types.specs.Header.{pieces_of}
use Rattle.day_terms.specs.declared.argument_reading.Words.{Words}

-- an argument as it is handed over: ended by a zero byte
abbrev pub ended_word : String Global → List ℕ
ended_word word = string_bytes word ++ 0 ∷ []

-- all parts but the last
abbrev pub but_last : List (List ℕ) → List (List ℕ)
but_last [] = []
but_last (part ∷ []) = []
but_last (part ∷ next ∷ parts) = part ∷ but_last (next ∷ parts)

-- the arguments of bytes in which each is ended by a zero byte
unfoldable pub words_of : List ℕ → List (List ℕ)
words_of bytes = but_last (pieces_of 0 bytes)

-- the arguments that are left
abbrev pub words_left : Words → List (List ℕ)
words_left w = words_of w.rest.now

-- the first argument is this value, and the others are left
pub record IsFirst {A : Type 0} (Is : List ℕ → A → Type 0) (words left : List (List ℕ)) (value : A) : Type 0 where
  pub word : List ℕ
  pub order : words ≡ word ∷ left
  pub is : Is word value
