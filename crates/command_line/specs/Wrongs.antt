-- The argument that a command does not take, and the option that it may have been meant for.
use Rattle.std.specs.Prelude.{ℕ, List, [], Option, None, get_or}
use Rattle.command_line.specs.Similar.{similar_flag}
use Rattle.command_line.specs.declared.flag.Flag.{Flag}
use Rattle.command_line.specs.declared.given.Wrong.{Wrong}
use Rattle.command_line.specs.declared.given.Wrong.TheVariants.{Unexpected, Repeated, Value, Participant, NoValue, NoParticipant, NoDay}
use Rattle.command_line.specs.declared.word.Word.{Word}

-- the argument that is wrong, or an empty one if one is missing
abbrev pub wrong_argument : List (List ℕ) → Wrong → List ℕ
wrong_argument arguments (Unexpected place) = get_or arguments place []
wrong_argument arguments (Repeated place) = get_or arguments place []
wrong_argument arguments (Value flag place) = get_or arguments place []
wrong_argument arguments (Participant place) = get_or arguments place []
wrong_argument arguments (NoValue flag) = []
wrong_argument arguments NoParticipant = []
wrong_argument arguments NoDay = []

-- the option of a command that an unexpected argument may have been meant for
abbrev pub similar_to : Word → List (List ℕ) → Wrong → Option Flag
similar_to word arguments (Unexpected place) = similar_flag word (get_or arguments place [])
similar_to word arguments (Repeated place) = None
similar_to word arguments (Value flag place) = None
similar_to word arguments (Participant place) = None
similar_to word arguments (NoValue flag) = None
similar_to word arguments NoParticipant = None
similar_to word arguments NoDay = None
