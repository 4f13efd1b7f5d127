-- The hint about bad arguments.
use Rattle.std.specs.Prelude.{◌∷◌, ℕ, List, []}
use Rattle.std.specs.Option.{option_map_or}
use Rattle.command_line.specs.Similar.{similar_word}
use Rattle.command_line.specs.Commands.{word_of}
use Rattle.command_line.specs.declared.hint.Hint.{Hint}
use Rattle.command_line.specs.declared.hint.Hint.TheVariants as hint

-- the use of the command that the first argument names, else the command of a similar name, else all commands
unfoldable pub hint_of : List (List ℕ) → Hint
hint_of [] = hint.Commands
hint_of (first ∷ rest) = option_map_or hint.Use (word_of first) (option_map_or hint.Similar (similar_word first) hint.Commands)
