-- The commands of the program, one row each, and their options.
use Rattle.std.specs.Prelude.{◌∷◌, ℕ, List, [], Option, Bool, true, false, codes, find}
use Rattle.std.specs.Str.{bytes_eq}
use Rattle.command_line.specs.declared.behind.Behind.{Behind}
use Rattle.command_line.specs.declared.behind.Behind.TheVariants.{File, ParticipantAndFile, BatchRow, Day, DayOrRow}
use Rattle.command_line.specs.declared.flag.Flag.{Flag}
use Rattle.command_line.specs.declared.flag.Flag.TheVariants.{Matrix, Strict, Follower, Partial, Help}
use Rattle.command_line.specs.declared.word.Word.{Word}
use Rattle.command_line.specs.declared.word.Word.TheVariants.{Report, Tape, Explain, Check, Verify, Encode, Decode, Line, Batch, Live, Follow, Watch, Status, End}

-- ## Options

-- an option's name
abbrev pub flag_name : Flag → List ℕ
flag_name Matrix = codes "--matrix"
flag_name Strict = codes "--strict"
flag_name Follower = codes "--follower"
flag_name Partial = codes "--partial"
flag_name Help = codes "--help"

-- ## Commands

-- the name of a command, the options that it takes, and what else stands behind it
pub record CommandRow : Type 0 where
  pub name : List ℕ
  pub flags : List Flag
  pub behind : Behind

-- the row of each command
abbrev pub command_row : Word → CommandRow
command_row Report = record { name = codes "report"; flags = Matrix ∷ Strict ∷ Help ∷ []; behind = File }
command_row Tape = record { name = codes "tape"; flags = Matrix ∷ Strict ∷ Help ∷ []; behind = File }
command_row Explain = record { name = codes "explain"; flags = Matrix ∷ Strict ∷ Help ∷ []; behind = File }
command_row Check = record { name = codes "check"; flags = Help ∷ []; behind = File }
command_row Verify = record { name = codes "verify"; flags = Matrix ∷ Help ∷ []; behind = File }
command_row Encode = record { name = codes "encode"; flags = Help ∷ []; behind = File }
command_row Decode = record { name = codes "decode"; flags = Help ∷ []; behind = File }
command_row Line = record { name = codes "line"; flags = Help ∷ []; behind = ParticipantAndFile }
command_row Batch = record { name = codes "batch"; flags = Help ∷ []; behind = BatchRow }
command_row Live = record { name = codes "live"; flags = Help ∷ []; behind = DayOrRow }
command_row Follow = record { name = codes "follow"; flags = Follower ∷ Partial ∷ Help ∷ []; behind = DayOrRow }
command_row Watch = record { name = codes "watch"; flags = Follower ∷ Help ∷ []; behind = DayOrRow }
command_row Status = record { name = codes "status"; flags = Help ∷ []; behind = Day }
command_row End = record { name = codes "end"; flags = Help ∷ []; behind = Day }

-- every command, in the order in which help lists them
abbrev pub all_words : List Word
all_words = Report ∷ Tape ∷ Explain ∷ Check ∷ Verify ∷ Encode ∷ Decode ∷ Line ∷ Batch ∷ Live ∷ Follow ∷ Watch ∷ Status ∷ End ∷ []

-- the argument that names a command
abbrev pub word_name : Word → List ℕ
word_name word = (command_row word).name

-- the command of a name
abbrev pub word_of : List ℕ → Option Word
word_of name = find (λ word. bytes_eq name (word_name word)) all_words

-- the options that a command takes
abbrev pub flags_of : Word → List Flag
flags_of word = (command_row word).flags

-- the option of a name that a command takes
abbrev pub flag_named : Word → List ℕ → Option Flag
flag_named word name = find (λ flag. bytes_eq name (flag_name flag)) (flags_of word)

-- whether the name of a file may stand there
abbrev pub takes_file : Behind → Bool
takes_file BatchRow = false
takes_file _ = true

-- whether a participant stands there
abbrev pub takes_participant : Behind → Bool
takes_participant ParticipantAndFile = true
takes_participant _ = false
