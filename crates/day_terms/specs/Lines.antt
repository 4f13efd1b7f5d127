-- The lines of a file, each ended by a line feed, which the last may lack.
use Rattle.std.specs.Prelude.{◌==◌, ℕ, Bool, List, [], ◌∷◌, length, if◌then◌else◌}
use Rattle.std.specs.List.{slice_split}
use Rattle.day_terms.specs.declared.lines.TextLines.{TextLines}

-- whether a byte ends a line
abbrev pub is_line_feed : ℕ → Bool
is_line_feed byte = byte == 10

-- the lines among the parts between line feeds; an empty part behind the last line feed is no line
abbrev pub lines_of_parts : List (List ℕ) → List (List ℕ)
lines_of_parts [] = []
lines_of_parts (part ∷ []) = if length part == 0 then [] else part ∷ []
lines_of_parts (part ∷ next ∷ parts) = part ∷ lines_of_parts (next ∷ parts)

-- the lines of a file
unfoldable pub file_lines : List ℕ → List (List ℕ)
file_lines text = lines_of_parts (slice_split is_line_feed text)

-- the lines that are left
abbrev pub lines_left : TextLines → List (List ℕ)
lines_left lines = file_lines lines.rest.now
