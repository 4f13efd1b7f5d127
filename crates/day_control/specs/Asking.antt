-- Defines what is read of an answer.
use Rattle.std.specs.Prelude.{◌≡◌, ◌≤◌, ℕ, List, length, Option, All, flat_map}
use Rattle.std.specs.Io.KnownBytes.{Appends, Consumes}
use Rattle.day_control.specs.Lines.{IsLine, answer_text, line_text}

-- lines, none of which is empty
abbrev pub AreLines : List (List ℕ) → Type 0
AreLines lines = All (λ line. IsLine line × (1 ≤ length line)) lines

-- an answer was read, and these are its lines as they are written
abbrev pub AnswerRead : Option (List ℕ) → Option (List ℕ) → List ℕ → Type 0
AnswerRead had left text = (lines : List (List ℕ)) × AreLines lines × (text ≡ flat_map line_text lines) × Consumes had left (answer_text lines)

-- an answer was read, and its lines were written
abbrev pub Told : Option (List ℕ) → Option (List ℕ) → Option (List ℕ) → Option (List ℕ) → Type 0
Told had left held holds = (lines : List (List ℕ)) × AreLines lines × Consumes had left (answer_text lines) × Appends held holds (flat_map line_text lines)
