-- Defines which commands are answered one after the other, and what was done at each end.
use Rattle.std.specs.Prelude.{◌≡◌, ◌≤◌, ℕ, List, [], ◌∷◌, ◌++◌, ◌⊎◌, length, Option, None, flat_map}
use Rattle.std.specs.Io.KnownBytes.{Appends, Consumes, IsAtEnd}
use Rattle.whole_io.specs.Writing.{WritesPrefix}
use Rattle.day_control.specs.Answers.{Answers, Fails, UNKNOWN_LINE}
use Rattle.day_control.specs.Calls.{Call, Makes}
use Rattle.day_control.specs.Commands.{command_of}
use Rattle.day_control.specs.Lines.{IsLine, answer_text, line_text}
use Rattle.day_control.specs.declared.serve_end.ControlOutcome.{ControlOutcome}
use Rattle.day_control.specs.declared.serve_end.ControlOutcome.TheVariants.{Clean, Truncated, TooLong, ReadFault, WriteFault, OutOfMemory, TooMany}

-- a line that is read whole
abbrev pub IsWhole : List ℕ → Type 0
IsWhole line = IsLine line × (length line ≤ 64)

-- a line that is too long, as far as it is read
abbrev pub IsTooLong : List ℕ → Type 0
IsTooLong line = IsLine line × (length line ≡ 65)

-- the lines made these calls, each its own and in order, and the text is their answers, one for each line and in order
unfoldable pub Answered : List (List ℕ) → List Call → List ℕ → Type 0
Answered [] calls text = (calls ≡ []) × (text ≡ [])
Answered (line ∷ lines) calls text =
    (own others : List Call) × (answer answers : List ℕ) × IsWhole line × Answers (command_of line) own answer × (calls ≡ own ++ others)
    × (text ≡ answer ++ answers) × Answered lines others answers

-- as many lines as were served were read of what a reader had, which left the rest; they made the calls that were made, and
-- their answers were appended to what a writer held; if a reader, a writer or the calls are not known, nothing is said of them
pub record Serves (before after : Option (List Call)) (had left held holds : Option (List ℕ)) (served : ℕ) : Type 0 where
  pub lines : List (List ℕ)
  pub calls : List Call
  pub text : List ℕ
  pub number : length lines ≡ served
  pub answered : Answered lines calls text
  pub made : Makes before after calls
  pub read : Consumes had left (flat_map line_text lines)
  pub written : Appends held holds text

-- what was read, called and written at an end: the lines that were served, and then
abbrev pub ServesTo : ControlOutcome → Option (List Call) → Option (List Call) → Option (List ℕ) → Option (List ℕ) → Option (List ℕ) → Option (List ℕ) → ℕ → Type 0
-- the input ended
ServesTo Clean before after had rest held holds served = Serves before after had rest held holds served × IsAtEnd rest
-- the input ended after some more bytes without a line feed, which got no answer
ServesTo Truncated before after had rest held holds served =
    (left : Option (List ℕ)) × (part : List ℕ) × Serves before after had left held holds served
    × IsLine part × (1 ≤ length part) × Consumes left rest part × IsAtEnd rest
-- the front of a line that is too long was read; it made no call and got the answer to a line that is no command
ServesTo TooLong before after had rest held holds served =
    (left between : Option (List ℕ)) × (line : List ℕ) × Serves before after had left held between served
    × IsTooLong line × Consumes left rest line × Appends between holds (answer_text (UNKNOWN_LINE ∷ []))
-- further bytes without a line feed were read, fewer than of a line that is too long
ServesTo ReadFault before after had rest held holds served =
    (left : Option (List ℕ)) × (part : List ℕ) × Serves before after had left held holds served
    × IsLine part × (length part ≤ 64) × Consumes left rest part
-- the next line was read and made its calls, or the front of a line that is too long, which made none; a prefix of its answer
-- was written
ServesTo WriteFault before after had rest held holds served =
    (midst : Option (List Call)) × (left between : Option (List ℕ)) × (line answer : List ℕ) × (calls : List Call) × Serves before midst had left held between served
    × Makes midst after calls × WritesPrefix answer between holds
    × ((IsWhole line × Consumes left rest (line_text line) × Answers (command_of line) calls answer)
    ⊎ (IsTooLong line × Consumes left rest line × Answers None calls answer))
-- the next line was read, a status, and nothing was written or changed
ServesTo OutOfMemory before after had rest held holds served =
    (midst : Option (List Call)) × (left : Option (List ℕ)) × (line : List ℕ) × (calls : List Call) × Serves before midst had left held holds served
    × Makes midst after calls × Fails (command_of line) calls × IsWhole line × Consumes left rest (line_text line)
-- nothing more
ServesTo TooMany before after had rest held holds served = Serves before after had rest held holds served
