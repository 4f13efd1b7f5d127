-- Defines lines of bytes, the text of an answer, and what is read of a line.
use Rattle.std.specs.Prelude.{◌≢◌, ◌≤◌, ◌==◌, ℕ, List, [], ◌∷◌, ◌++◌, length, take, flat_map, filter, Bool, true, false, Option, All}
use Rattle.std.specs.List.{slice_split}
use Rattle.std.specs.Io.KnownBytes.{Consumes, IsAtEnd}
use Rattle.day_control.specs.declared.line.LineRead.{LineRead}
use Rattle.day_control.specs.declared.line.LineRead.TheVariants.{Line, TooLong, Nothing, Part, Fault}

-- no byte of a line is a line feed
abbrev pub IsLine : List ℕ → Type 0
IsLine line = All (λ byte. byte ≢ 10) line

-- a line as it is written
abbrev pub line_text : List ℕ → List ℕ
line_text line = line ++ 10 ∷ []

-- an answer: its lines, and then an empty one
abbrev pub answer_text : List (List ℕ) → List ℕ
answer_text lines = flat_map line_text lines ++ 10 ∷ []

-- whether a line is not empty
abbrev pub is_full : List ℕ → Bool
is_full [] = false
is_full (byte ∷ rest) = true

-- the lines of a text that are not empty
abbrev pub full_lines : List ℕ → List (List ℕ)
full_lines text = filter is_full (slice_split (λ byte. byte == 10) text)

-- what was read of a line, which is at the front of a row
abbrev pub ReadsLine : LineRead → Option (List ℕ) → Option (List ℕ) → List ℕ → Type 0
ReadsLine (Line len) had left row = (len ≤ 64) × IsLine (take len row) × Consumes had left (line_text (take len row))
ReadsLine TooLong had left row = IsLine row × Consumes had left row
ReadsLine Nothing had left row = Consumes had left [] × IsAtEnd left
ReadsLine Part had left row = (part : List ℕ) × IsLine part × (1 ≤ length part) × (length part ≤ 65) × Consumes had left part × IsAtEnd left
ReadsLine Fault had left row = (part : List ℕ) × IsLine part × (length part ≤ 64) × Consumes had left part
