-- Defines the message of a line: one capital letter, one space, and the message's bytes in hexadecimal digits.
use Rattle.std.specs.Prelude.{ℕ, ◌+◌, ◌*◌, ◌/◌, ◌==◌, ◌&&◌, List, [], ◌∷◌, length, Option, Some, None, Result, Ok, Err, option_and_then}
use Rattle.std.specs.Prelude.{if◌then◌else◌}
use Rattle.std.specs.Option.{option_map}
use Rattle.hex.specs.Hex.{hex_digit_value}
use Rattle.reports.specs.declared.message.Message.{Message}
use Rattle.reports.specs.declared.fault.MessageFault.{MessageFault}
use Rattle.reports.specs.Messages.{header_of}
use Rattle.reports.specs.Reading.{message_at}
use Rattle.tape_core.specs.declared.refusal.Refusal.TheVariants.{WrongLine}
use Rattle.tape_types.specs.Header.{is_capital}
use Rattle.batch.specs.declared.batch_refusal.BatchRefusal.{BatchRefusal}
use Rattle.batch.specs.declared.batch_refusal.BatchRefusal.TheVariants.{BadLine, BadMessage, ExtraBytes, Refused}

-- the byte of two digits, in front of others
abbrev pub with_byte : Option ℕ → Option ℕ → Option (List ℕ) → Option (List ℕ)
with_byte high low bytes =
    option_and_then (λ h. option_and_then (λ l. option_map (λ rest. (h * 16 + l) ∷ rest) bytes) low) high

-- the bytes that digits spell, two digits a byte; none if their number is odd or a byte is no digit
unfoldable pub hex_bytes : List ℕ → Option (List ℕ)
hex_bytes [] = Some []
hex_bytes (digit ∷ []) = None
hex_bytes (high ∷ low ∷ rest) = with_byte (hex_digit_value high) (hex_digit_value low) (hex_bytes rest)

-- what is read from a line's bytes
abbrev pub from_bytes : Result (Message × ℕ) MessageFault → Result (Message × ℕ) BatchRefusal
from_bytes (Ok read) = Ok read
from_bytes (Err fault) = Err (BadMessage fault)

-- the message at the front of what digits spell, and how many bytes it took
abbrev pub spelled_message : Option (List ℕ) → Result (Message × ℕ) BatchRefusal
spelled_message None = Err BadLine
spelled_message (Some bytes) = from_bytes (message_at bytes)

-- the message read, if it took all bytes of the line and is of the line's participant
abbrev pub whole_message : ℕ → ℕ → Result (Message × ℕ) BatchRefusal → Result Message BatchRefusal
whole_message letter len (Err refusal) = Err refusal
whole_message letter len (Ok (message, taken)) =
    if taken == len then (if (header_of message).participant == letter then Ok message else Err (Refused WrongLine))
    else Err ExtraBytes

-- the letter of a line, and the digits after the one space
abbrev pub line_parts : List ℕ → Option (ℕ × List ℕ)
line_parts [] = None
line_parts (letter ∷ []) = None
line_parts (letter ∷ space ∷ digits) = if is_capital letter && (space == 32) then Some (letter, digits) else None

-- the message of a line's letter and digits, two digits a byte
abbrev pub message_of_parts : Option (ℕ × List ℕ) → Result Message BatchRefusal
message_of_parts None = Err BadLine
message_of_parts (Some (letter, digits)) = whole_message letter (length digits / 2) (spelled_message (hex_bytes digits))

-- the message of a line, or the first thing wrong with it
unfoldable pub line_message : List ℕ → Result Message BatchRefusal
line_message line = message_of_parts (line_parts line)
