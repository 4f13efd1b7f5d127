-- Defines a line's input: frames one after the other, and what may come after them.
use Rattle.std.specs.Prelude.{◌≡◌, ◌+◌, ◌<◌, ◌≤◌, ◌⊎◌, ℕ, List, [], length, Option, Result, Ok, Err}
use Rattle.std.specs.Io.KnownBytes.{Consumes, IsAtEnd}
use Rattle.reports.specs.Reading.{announced_length, message_at, LONGEST_BODY}
use Rattle.reports.specs.Spelling.{Spells}
use Rattle.reports.specs.declared.fault.MessageFault.{MessageFault}
use Rattle.reports.specs.declared.message.Message.{Message}
use Rattle.participant_lines.specs.declared.line_end.LineOutcome.{LineOutcome}
use Rattle.participant_lines.specs.declared.line_end.LineOutcome.TheVariants.{Clean, Truncated, Oversize, ReadFault, TooMany, OutOfMemory, Behind}

-- how many bytes the body of a frame may have
abbrev pub IsLength : ℕ → Type 0
IsLength len = (1 ≤ len) × (len ≤ LONGEST_BODY)

-- a frame: its length in two bytes, and as many bytes
pub record IsFrame (frame : List ℕ) : Type 0 where
  pub len : IsLength (announced_length frame)
  pub whole : length frame ≡ 2 + announced_length frame

-- what a frame spells: a message that is all of it, or no message, for this fault
abbrev pub IsSpelled : List ℕ → Result Message MessageFault → Type 0
IsSpelled frame (Ok m) = Spells frame m
IsSpelled frame (Err fault) = message_at frame ≡ Err fault

-- a frame was read from what a reader had, which left the rest, and spells this
abbrev pub ReadsFrame : Option (List ℕ) → Option (List ℕ) → Result Message MessageFault → Type 0
ReadsFrame had rest found = (frame : List ℕ) × IsFrame frame × Consumes had rest frame × IsSpelled frame found

-- the front of a frame and not all of it: one byte or none, or a length and fewer bytes than it says
abbrev pub IsPart : List ℕ → Type 0
IsPart part = (length part < 2) ⊎ (IsLength (announced_length part) × (length part < 2 + announced_length part))

-- what was read from an input in which no whole frame comes next, by the end of the line
abbrev pub EndsInput : LineOutcome → Option (List ℕ) → Option (List ℕ) → Type 0
EndsInput Clean had rest = Consumes had rest [] × IsAtEnd rest
EndsInput Truncated had rest = (part : List ℕ) × Consumes had rest part × (1 ≤ length part) × IsPart part × IsAtEnd rest
EndsInput Oversize had rest = (head : List ℕ) × Consumes had rest head × (length head ≡ 2) × ¬ (IsLength (announced_length head))
EndsInput ReadFault had rest = (part : List ℕ) × Consumes had rest part × IsPart part
EndsInput TooMany had rest = ⊥
EndsInput OutOfMemory had rest = ⊥
EndsInput Behind had rest = ⊥
