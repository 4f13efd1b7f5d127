-- Defines the calls that commands make.
use Rattle.std.specs.Prelude.{◌≡◌, ℕ, Bool, List, ◌++◌, Option, None, Some, ⊤}

-- a call of what is operated, with its result: the text of the status, or whether an end was the first
pub data Call : Type 0 where
  tells : List ℕ → Call
  ends : Bool → Call

-- known calls grow by these
abbrev pub Makes : Option (List Call) → Option (List Call) → List Call → Type 0
Makes None new calls = ⊤
Makes (Some before) None calls = ⊥
Makes (Some before) (Some after) calls = after ≡ before ++ calls

-- a call that returned a text, and so changed nothing
abbrev pub IsTold : Call → Type 0
IsTold (tells text) = ⊤
IsTold (ends is_first) = ⊥
