-- What a word's arguments give, read one after another, or which of them is wrong.
use Rattle.std.specs.Prelude.{◌+◌, ◌==◌, ◌&&◌, ◌∷◌, ℕ, List, [], Option, Some, None, Result, Ok, Err, Bool, true, false, codes, drop, length, not, position, take, nat_eq, nat_le, nat_lt, if◌then◌else◌}
use Rattle.std.specs.Char.{is_ascii_digit}
use Rattle.std.specs.List.{list_all, starts_with}
use Rattle.std.specs.Option.{is_some, option_map, option_map_or}
use Rattle.std.specs.Str.{bytes_eq}
use Rattle.std.specs.Str.Parse.{digits_value}
use Rattle.memchr.specs.Find.{is_byte}
use Rattle.sale_matrix.specs.declared.matrix.Matrix.{Matrix}
use Rattle.tape_types.specs.Header.{participant_named}
use Rattle.day_terms.specs.Values.{matrix_named}
use Rattle.command_line.specs.Commands.{command_row, flag_named, takes_file, takes_participant}
use Rattle.command_line.specs.declared.flag.Flag.{Flag}
use Rattle.command_line.specs.declared.flag.Flag.TheVariants as flag
use Rattle.command_line.specs.declared.given.Given.{Given}
use Rattle.command_line.specs.declared.given.Wrong.{Wrong}
use Rattle.command_line.specs.declared.given.Wrong.TheVariants as wrong
use Rattle.command_line.specs.declared.word.Word.{Word}

-- ## One argument

-- whether an argument is an option, not the name of a file; a lone minus is standard input
abbrev pub is_option : List ℕ → Bool
is_option argument = starts_with nat_eq argument (codes "-") && not (bytes_eq argument (codes "-"))

-- an option's name, which ends before the first equals sign
abbrev pub option_name : List ℕ → List ℕ
option_name argument = option_map_or (λ end. take end argument) (position (is_byte 61) argument) argument

-- an option's value, which stands behind the first equals sign
abbrev pub option_value : List ℕ → Option (List ℕ)
option_value argument = option_map (λ end. drop (end + 1) argument) (position (is_byte 61) argument)

-- whether a text is a number in decimal digits, from 1 and of 16 bits
abbrev pub is_follower : List ℕ → Bool
is_follower value = list_all is_ascii_digit value && nat_lt 0 (digits_value 10 value) && nat_lt (digits_value 10 value) 65536

-- the place of a follower
abbrev pub follower_named : List ℕ → Option ℕ
follower_named value = if is_follower value then Some (digits_value 10 value) else None

-- ## What is given

-- nothing is given
abbrev pub nothing_given : Given
nothing_given = record { matrix = None; strict = false; follower = None; partial = false; help = false; participant = None; file = None; awaits = None }

-- whether an option was given
abbrev pub is_given : Given → Flag → Bool
is_given given flag.Matrix = is_some given.matrix
is_given given flag.Strict = given.strict
is_given given flag.Follower = is_some given.follower
is_given given flag.Partial = given.partial
is_given given flag.Help = given.help

-- with an option's value, which stands in the argument at this place
abbrev pub with_value : Given → Flag → ℕ → List ℕ → Result Given Wrong
with_value given flag.Matrix place value =
    option_map_or (λ matrix. Ok (record given { matrix = Some matrix; awaits = None })) (matrix_named value) (Err (wrong.Value flag.Matrix place))
with_value given flag.Strict place value = Err (wrong.Unexpected place)
with_value given flag.Follower place value =
    option_map_or (λ follower. Ok (record given { follower = Some follower; awaits = None })) (follower_named value) (Err (wrong.Value flag.Follower place))
with_value given flag.Partial place value = Err (wrong.Unexpected place)
with_value given flag.Help place value = Err (wrong.Unexpected place)

-- with an option whose argument has no value: its value is the next argument, if it takes one
abbrev pub without_value : Given → Flag → Given
without_value given flag.Matrix = record given { awaits = Some flag.Matrix }
without_value given flag.Strict = record given { strict = true }
without_value given flag.Follower = record given { awaits = Some flag.Follower }
without_value given flag.Partial = record given { partial = true }
without_value given flag.Help = record given { help = true }

-- with an option that a word takes, which may be given once
abbrev pub with_flag : Given → Flag → ℕ → Option (List ℕ) → Result Given Wrong
with_flag given flag place value =
    if is_given given flag then Err (wrong.Repeated place)
    else option_map_or (with_value given flag place) value (Ok (without_value given flag))

-- with an argument that begins as an option
abbrev pub with_option : Word → Given → ℕ → List ℕ → Result Given Wrong
with_option word given place argument =
    option_map_or (λ flag. with_flag given flag place (option_value argument)) (flag_named word (option_name argument)) (Err (wrong.Unexpected place))

-- with the name of a file, of which a word takes at most one
abbrev pub with_file : Word → Given → ℕ → Result Given Wrong
with_file word given place =
    if takes_file (command_row word).behind && not (is_some given.file) then Ok (record given { file = Some place }) else Err (wrong.Unexpected place)

-- with a participant, which a line takes first
abbrev pub with_participant : Given → ℕ → List ℕ → Result Given Wrong
with_participant given place argument =
    option_map_or (λ participant. Ok (record given { participant = Some participant })) (participant_named argument) (Err (wrong.Participant place))

-- whether a word awaits a participant
abbrev pub awaits_participant : Word → Given → Bool
awaits_participant word given = takes_participant (command_row word).behind && not (is_some given.participant)

-- with an argument that is no option
abbrev pub with_plain : Word → Given → ℕ → List ℕ → Result Given Wrong
with_plain word given place argument =
    if awaits_participant word given then with_participant given place argument else with_file word given place

-- with one more argument, which is the value of an option that awaits one
abbrev pub with_argument : Word → Given → ℕ → List ℕ → Result Given Wrong
with_argument word given place argument =
    option_map_or (λ flag. with_value given flag place argument) given.awaits
    (if is_option argument then with_option word given place argument else with_plain word given place argument)

-- what a next step gives after a first one, unless that is wrong
abbrev pub then_with : Result Given Wrong → (Given → Result Given Wrong) → Result Given Wrong
then_with (Ok given) next = next given
then_with (Err wrong) next = Err wrong

-- with all arguments, of which the first has this place: what they give, or the first wrong one
abbrev pub given_with : Word → Given → ℕ → List (List ℕ) → Result Given Wrong
given_with word given place [] = Ok given
given_with word given place (argument ∷ rest) =
    then_with (with_argument word given place argument) (λ more. given_with word more (place + 1) rest)
