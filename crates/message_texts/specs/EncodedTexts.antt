-- Defines the text of a batch as which messages are encoded.
use Rattle.std.specs.Prelude.{ℕ, List, [], ◌∷◌, ◌++◌, map}
use Rattle.std.specs.List.{flat_map, join_with_byte}
use Rattle.hex.specs.Hex.{encode_lower}
use Rattle.reports.specs.Messages.{header_of}
use Rattle.reports.specs.Spelling.{spelling}
use Rattle.reports.specs.declared.message.Message.{Message}
use Rattle.csv_days.specs.Days.{names_of}
use Rattle.tape_types.specs.Names.{Names}
use Rattle.tape_types.specs.Ranges.{name_of}

-- a line of names between single spaces
abbrev pub names_line : List (List ℕ) → List ℕ
names_line names = join_with_byte 32 names ++ 10 ∷ []

-- the two lines of a listing: its symbols, and its participants
unfoldable pub header_text : Names → List ℕ
header_text names = names_line (map name_of names.symbols) ++ names_line (map (λ p. p ∷ []) names.participants)

-- a message's line: its participant, a space and its bytes in lower case digits
unfoldable pub message_line : Message → List ℕ
message_line m = (header_of m).participant ∷ 32 ∷ (encode_lower (spelling m) ++ 10 ∷ [])

-- the text of messages: a header of the names in them, and a line for each
unfoldable pub encoded_text : List Message → List ℕ
encoded_text messages = header_text (names_of messages) ++ flat_map message_line messages
