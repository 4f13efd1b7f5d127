-- Defines the answers of a tape to messages, one after another.
use Rattle.std.specs.Prelude.{◌+◌, ℕ, List, [], ◌∷◌, length, Option, Some, None, Result, Ok, Err}
use Rattle.reports.specs.declared.message.Message.{Message}
use Rattle.tape_core.specs.Tape.{TapeState, refusal, with_message}
use Rattle.tape_core.specs.declared.refusal.Refusal.{Refusal}

-- the answer if a tape has this refusal of a message, or none: the refusal, or the next tape number
abbrev pub answer_by : TapeState → Option Refusal → Result ℕ Refusal
answer_by t None = Ok (length t.entries + 1)
answer_by t (Some refused) = Err refused

-- the answer to a message
unfoldable pub answer : TapeState → Message → Result ℕ Refusal
answer t m = answer_by t (refusal t m)

-- the tape after a message of which it has this refusal, or none
abbrev pub tape_by : TapeState → Message → Option Refusal → TapeState
tape_by t m None = with_message t m
tape_by t m (Some refused) = t

-- the tape after a message, which is as it was if it refuses the message
unfoldable pub tape_after : TapeState → Message → TapeState
tape_after t m = tape_by t m (refusal t m)

-- the answers to messages
unfoldable pub answers : TapeState → List Message → List (Result ℕ Refusal)
answers t [] = []
answers t (m ∷ ms) = answer t m ∷ answers (tape_after t m) ms
