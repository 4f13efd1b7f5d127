-- Defines the messages of a batch's text, or the first line that is wrong.
use Rattle.std.specs.Prelude.{◌≡◌, ◌+◌, ℕ, List, [], ◌∷◌, ◌++◌, length, fold, codes, Option, Some, None, Result, Ok, Err}
use Rattle.std.specs.Option.{option_map, option_or}
use Rattle.std.specs.Result.{result_err}
use Rattle.batch.specs.Batch.{line_at, message_lines}
use Rattle.batch.specs.Header.{header_listing}
use Rattle.batch.specs.MessageLine.{line_message}
use Rattle.batch.specs.declared.batch_refusal.BatchRefusal.{BatchRefusal}
use Rattle.reports.specs.Fields.{◌>>=◌}
use Rattle.reports.specs.declared.message.Message.{Message}
use Rattle.message_texts.specs.declared.line_fault.LineFault.TheVariants as fault
use Rattle.message_texts.specs.declared.text_end.TextEnd.{TextEnd}
use Rattle.message_texts.specs.declared.text_end.TextEnd.TheVariants.{Line, ReadFault, OutOfMemory, WriteFault}

-- ## The header

-- what is wrong with two lines as a header, as the fault of the line of this number
abbrev pub fault_beside : ℕ → List ℕ → List ℕ → Option TextEnd
fault_beside number first second = option_map (λ wrong. Line number (fault.Header wrong)) (result_err (header_listing first second))

-- what is wrong with the first line of a header, beside participants without a fault, or else with the second
unfoldable pub header_fault : List ℕ → List ℕ → Option TextEnd
header_fault first second = option_or (fault_beside 1 first (codes "A")) (fault_beside 2 first second)

-- ## The messages

-- the number of the first line after the header
abbrev pub FIRST_LINE : ℕ
FIRST_LINE = 3

-- a line's refusal as the fault of the line of this number
abbrev pub as_line : ℕ → Result Message BatchRefusal → Result Message TextEnd
as_line number (Ok message) = Ok message
as_line number (Err refusal) = Err (Line number (fault.Message refusal))

-- the message of the line of this number
abbrev pub line_read : ℕ → List ℕ → Result Message TextEnd
line_read number line = as_line number (line_message line)

-- the messages of lines and of one more line
unfoldable pub with_line : Result (List Message) TextEnd → List ℕ → Result (List Message) TextEnd
with_line read line = do
  messages ← read
  message ← line_read (length messages + FIRST_LINE) line
  Ok (messages ++ message ∷ [])

-- the messages of the lines after a header, or the first that is wrong
abbrev pub lines_messages : List (List ℕ) → Result (List Message) TextEnd
lines_messages lines = fold with_line (Ok []) lines

-- the messages of lines after a header with this fault, or none
abbrev pub messages_below : Option TextEnd → List (List ℕ) → Result (List Message) TextEnd
messages_below None lines = lines_messages lines
messages_below (Some end) lines = Err end

-- the messages of a text, or the first line that is wrong
unfoldable pub text_messages : List ℕ → Result (List Message) TextEnd
text_messages input = messages_below (header_fault (line_at input 0) (line_at input 1)) (message_lines input)

-- these are the messages of a text
abbrev pub IsText : List ℕ → List Message → Type 0
IsText input messages = text_messages input ≡ Ok messages

-- why a text has no messages: a line is wrong; or a read failed, or memory ran out, or a write failed
abbrev pub IsTextEnd : List ℕ → TextEnd → Type 0
IsTextEnd input (Line number wrong) = text_messages input ≡ Err (Line number wrong)
IsTextEnd input ReadFault = Unit {0}
IsTextEnd input OutOfMemory = Unit {0}
IsTextEnd input WriteFault = Unit {0}

-- why lines after a header have no messages: one is wrong; or a read failed, or memory ran out
abbrev pub IsLinesEnd : List (List ℕ) → TextEnd → Type 0
IsLinesEnd lines (Line number wrong) = lines_messages lines ≡ Err (Line number wrong)
IsLinesEnd lines ReadFault = Unit {0}
IsLinesEnd lines OutOfMemory = Unit {0}
IsLinesEnd lines WriteFault = ⊥
