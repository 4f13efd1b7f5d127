-- What the program's arguments ask for: a word with its options and files, help, or the version.
use Rattle.std.specs.Prelude.{◌==◌, ◌||◌, ◌&&◌, ◌∷◌, ℕ, List, [], Option, Some, None, Result, Ok, Err, Bool, true, false, codes, not, if◌then◌else◌}
use Rattle.std.specs.Option.{option_and_then, option_map_or}
use Rattle.std.specs.Str.{bytes_eq}
use Rattle.command_line.specs.Given.{given_with, is_option, nothing_given}
use Rattle.command_line.specs.Commands.{command_row, flag_name, word_of}
use Rattle.command_line.specs.declared.behind.Behind.{Behind}
use Rattle.command_line.specs.declared.behind.Behind.TheVariants.{BatchRow, DayOrRow}
use Rattle.command_line.specs.declared.command.Asked.{Asked}
use Rattle.command_line.specs.declared.command.Asked.TheVariants as asked
use Rattle.command_line.specs.declared.command.Command.{Command}
use Rattle.command_line.specs.declared.command.Command.TheVariants as command
use Rattle.command_line.specs.declared.command.Conversion.TheVariants as conversion
use Rattle.command_line.specs.declared.command.FileCommand.{FileCommand}
use Rattle.command_line.specs.declared.flag.Flag.{Flag}
use Rattle.command_line.specs.declared.flag.Flag.TheVariants as flag
use Rattle.command_line.specs.declared.given.Given.{Given}
use Rattle.command_line.specs.declared.given.Wrong.{Wrong}
use Rattle.command_line.specs.declared.given.Wrong.TheVariants as wrong
use Rattle.command_line.specs.declared.word.Word.{Word}
use Rattle.command_line.specs.declared.word.Word.TheVariants as word

-- ## Arguments in a row

-- whether the arguments of a running day stand in a row: not if there is only one, or up to four of which one is an option
abbrev pub day_in_a_row : List (List ℕ) → Bool
day_in_a_row [] = true
day_in_a_row (a ∷ []) = false
day_in_a_row (a ∷ b ∷ []) = not (is_option a || is_option b)
day_in_a_row (a ∷ b ∷ c ∷ []) = not (is_option a || is_option b || is_option c)
day_in_a_row (a ∷ b ∷ c ∷ d ∷ []) = not (is_option a || is_option b || is_option c || is_option d)
day_in_a_row (a ∷ b ∷ c ∷ d ∷ e ∷ rest) = true

-- whether the arguments of a batch stand in a row: unless help is asked for
abbrev pub batch_in_a_row : List (List ℕ) → Bool
batch_in_a_row [] = true
batch_in_a_row (a ∷ []) = not (bytes_eq a (flag_name flag.Help))
batch_in_a_row (a ∷ b ∷ rest) = true

-- whether the arguments that stand there are in a row, each known by its place, rather than a file with its options
abbrev pub in_a_row : Behind → List (List ℕ) → Bool
in_a_row BatchRow rest = batch_in_a_row rest
in_a_row DayOrRow rest = day_in_a_row rest
in_a_row _ rest = false

-- ## What is asked for

-- a text of a table or a journal is asked for, by the file that is given
abbrev pub table : Command → Given → Result Asked Wrong
table command given = Ok (asked.Table (record { command = command; file = given.file }))

-- the place of a follower that is given, or the first if none is
abbrev pub follower_given : Given → ℕ
follower_given given = option_map_or (λ follower. follower) given.follower 1

-- what a word asks for with what is given, of which no option awaits its value and none is help
abbrev pub asked_by : Word → Given → Result Asked Wrong
asked_by word.Report given = table (command.Report given.matrix given.strict) given
asked_by word.Tape given = table (command.Tape given.matrix given.strict) given
asked_by word.Explain given = table (command.Explain given.matrix given.strict) given
asked_by word.Check given = table command.Check given
asked_by word.Verify given = table (command.Verify given.matrix) given
asked_by word.Encode given = table (command.Convert conversion.Encode) given
asked_by word.Decode given = table (command.Convert conversion.Decode) given
asked_by word.Line given = option_map_or (λ participant. table (command.Convert (conversion.Line participant)) given) given.participant (Err wrong.NoParticipant)
asked_by word.Batch given = Ok (asked.HelpOn word.Batch)
asked_by word.Live given = option_map_or (λ file. Ok (asked.Live file)) given.file (Err wrong.NoDay)
asked_by word.Follow given = option_map_or (λ file. Ok (asked.Follow (follower_given given) given.partial file)) given.file (Err wrong.NoDay)
asked_by word.Watch given = option_map_or (λ file. Ok (asked.Watch (follower_given given) file)) given.file (Err wrong.NoDay)
asked_by word.Status given = option_map_or (λ file. Ok (asked.Status file)) given.file (Err wrong.NoDay)
asked_by word.End given = option_map_or (λ file. Ok (asked.End file)) given.file (Err wrong.NoDay)

-- what a word asks for with what is given
abbrev pub asked_with : Word → Given → Result Asked Wrong
asked_with word given =
    if given.help then Ok (asked.HelpOn word)
    else option_map_or (λ flag. Err (wrong.NoValue flag)) given.awaits (asked_by word given)

-- what was asked for, or the wrong argument of a word
abbrev pub asked_or_wrong : Word → Result Asked Wrong → Asked
asked_or_wrong word (Ok asked) = asked
asked_or_wrong word (Err wrong) = asked.Wrong word wrong

-- what is asked for with all that is given, or the first wrong argument
abbrev pub asked_if : Word → Result Given Wrong → Asked
asked_if word (Ok given) = asked_or_wrong word (asked_with word given)
asked_if word (Err wrong) = asked.Wrong word wrong

-- what a word asks for with the arguments after it, unless they stand in a row
abbrev pub asked_after : List (List ℕ) → Word → Option Asked
asked_after rest word = if in_a_row (command_row word).behind rest then None else Some (asked_if word (given_with word nothing_given 0 rest))

-- what a single argument asks for
abbrev pub asked_alone : List ℕ → List (List ℕ) → Option Asked
asked_alone first [] = if bytes_eq first (codes "--help") then Some asked.Help else if bytes_eq first (codes "--version") then Some asked.Version else None
asked_alone first (next ∷ rest) = None

-- what the first argument and the others ask for
abbrev pub asked_first : Option Asked → Option Asked → Option Asked
asked_first (Some alone) word = Some alone
asked_first None word = word

-- what arguments ask for, unless they stand in a row or begin with no word
unfoldable pub asked_of : List (List ℕ) → Option Asked
asked_of [] = None
asked_of (first ∷ rest) = asked_first (asked_alone first rest) (option_and_then (asked_after rest) (word_of first))
