-- Defines the calls that a command makes, and its answer.
use Rattle.std.specs.Prelude.{◌≡◌, ℕ, Bool, true, false, List, [], ◌∷◌, Option, None, Some, codes, All}
use Rattle.std.specs.Io.KnownBytes.{Appends}
use Rattle.whole_io.specs.Writing.{WritesPrefix}
use Rattle.day_control.specs.declared.command.ControlCommand.{ControlCommand}
use Rattle.day_control.specs.declared.command.ControlCommand.TheVariants.{Status, End}
use Rattle.day_control.specs.Calls.{Call, tells, ends, IsTold, Makes}
use Rattle.day_control.specs.Lines.{answer_text, full_lines}
use Rattle.day_control.specs.declared.serve_end.ControlOutcome.{ControlOutcome}
use Rattle.day_control.specs.declared.serve_end.ControlOutcome.TheVariants.{OutOfMemory, WriteFault}

-- the answer's line for a line that is no command
abbrev pub UNKNOWN_LINE : List ℕ
UNKNOWN_LINE = codes "unknown command; status or end"

-- the answer's line for an end: the first, or another
abbrev pub ending_line : Bool → List ℕ
ending_line true = codes "ending"
ending_line false = codes "ending without waiting for followers"

-- a command makes these calls and gets this answer; a line that is no command makes no call
abbrev pub Answers : Option ControlCommand → List Call → List ℕ → Type 0
Answers None calls text = (calls ≡ []) × (text ≡ answer_text (UNKNOWN_LINE ∷ []))
Answers (Some Status) calls text = (told : List ℕ) × (calls ≡ tells told ∷ []) × (text ≡ answer_text (full_lines told))
Answers (Some End) calls text = (is_first : Bool) × (calls ≡ ends is_first ∷ []) × (text ≡ answer_text (ending_line is_first ∷ []))

-- if memory ran out for a command's answer, the command is a status, and nothing was changed
abbrev pub Fails : Option ControlCommand → List Call → Type 0
Fails command calls = (command ≡ Some Status) × All IsTold calls

-- a command made its calls, and its answer was written
abbrev pub AnswersTo : Option ControlCommand → Option (List Call) → Option (List Call) → Option (List ℕ) → Option (List ℕ) → Type 0
AnswersTo command before after held holds =
    (calls : List Call) × (text : List ℕ) × Answers command calls text × Makes before after calls × Appends held holds text

-- a command made its calls, and a prefix of its answer was written; or memory ran out before, and nothing was written
abbrev pub AnswerFails : ControlOutcome → Option ControlCommand → Option (List Call) → Option (List Call) → Option (List ℕ) → Option (List ℕ) → Type 0
AnswerFails WriteFault command before after held holds =
    (calls : List Call) × (text : List ℕ) × Answers command calls text × Makes before after calls × WritesPrefix text held holds
AnswerFails OutOfMemory command before after held holds = (calls : List Call) × Fails command calls × Makes before after calls × (holds ≡ held)
AnswerFails _ command before after held holds = ⊥
