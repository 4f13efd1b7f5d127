-- The part of a text that a writer got, if a write may fail.
use Rattle.std.specs.Prelude.{◌≡◌, ℕ, List, ◌++◌, Option}
use Rattle.std.specs.Io.KnownBytes.{Appends}

-- known bytes grow by the text up to this unwritten rest of it
pub record WritesUpTo (text rest : List ℕ) (old new : Option (List ℕ)) : Type 0 where
  pub prefix : List ℕ
  pub split : text ≡ prefix ++ rest
  pub written : Appends old new prefix

-- known bytes grow by a prefix of the text and nothing else
abbrev pub WritesPrefix : List ℕ → Option (List ℕ) → Option (List ℕ) → Type 0
WritesPrefix text old new = (rest : List ℕ) × WritesUpTo text rest old new
