-- Shows that a refusal out of memory comes only of an acceptable message.
use Rattle.std.proofs.Common.{◌≡◌, ◌≢◌, ◌==◌, ◌∙◌, ℕ, List, Option, Some, None, Result, Ok, Err, refl, ap, inl, inr}
use Rattle.std.proofs.lemmas.Bool.{cases_Bool}
use Rattle.reports.specs.Messages.{header_of}
use Rattle.reports.specs.Reading.{message_at}
use Rattle.reports.specs.declared.fault.MessageFault.{MessageFault}
use Rattle.reports.specs.declared.message.Message.{Message}
use Rattle.tape_core.specs.Answers.{answer, answer_by, tape_after, tape_by}
use Rattle.tape_core.specs.Tape.{TapeState, refusal}
use Rattle.tape_core.specs.Lemmas.RefusalCases.{of_refusal}
use Rattle.tape_core.specs.declared.refusal.Refusal.{Refusal}
use Rattle.tape_core.specs.declared.refusal.Refusal.TheVariants.{OutOfMemory}
use Rattle.batch.specs.Batch.{answer_by_refusal, line_answer, tape_after_line}
use Rattle.batch.specs.MessageLine.{from_bytes, hex_bytes, line_message, line_parts, message_of_parts, spelled_message, whole_message}
use Rattle.batch.specs.declared.batch_refusal.BatchRefusal.{BatchRefusal}
use Rattle.batch.specs.declared.batch_refusal.BatchRefusal.TheVariants.{Refused}

-- ## No definition refuses a message for want of memory

-- a tape itself refuses no message as out of memory
refusal-other : (t : TapeState) (m : Message) → refusal t m ≢ Some OutOfMemory
refusal-other t m = λ is. of_refusal (λ r. r ≢ OutOfMemory) t m OutOfMemory (record {
  closed = λ _ e. cc;
  full = λ _ e. cc;
  unknown = λ _ e. cc;
  stale = λ _ e. cc;
  unlisted = λ _ e. cc;
  not_within = λ _ e. cc;
  unnamed = λ e. cc;
  of_other = λ e. cc;
  cancelled = λ e. cc;
  standing = λ e. cc;
}) is refl

-- a message that is read from bytes is not refused as out of memory
whole_message-other : (letter len : ℕ) (read : Result (Message × ℕ) MessageFault) → whole_message letter len (from_bytes read) ≢ Err (Refused OutOfMemory)
whole_message-other letter len (Err fault) = λ e. cc
whole_message-other letter len (Ok (m, taken)) = elim (cases_Bool (taken == len)) [
  | inl all ↦ rw all (elim (cases_Bool ((header_of m).participant == letter)) [
    | inl own ↦ rw own (λ e. cc)
    | inr other ↦ rw other (λ e. cc)
  ])
  | inr more ↦ rw more (λ e. cc)
]

-- nor is one that digits spell
parts-other : (letter len : ℕ) (bytes : Option (List ℕ)) → whole_message letter len (spelled_message bytes) ≢ Err (Refused OutOfMemory)
parts-other letter len None = λ e. cc
parts-other letter len (Some bytes) = whole_message-other letter len (message_at bytes)

-- nor is one that the parts of a line make up
message_of_parts-other : (parts : Option (ℕ × List ℕ)) → message_of_parts parts ≢ Err (Refused OutOfMemory)
message_of_parts-other None = λ e. cc
message_of_parts-other (Some (letter, digits)) = parts-other letter _ (hex_bytes digits)

-- a line without a message is not refused for want of memory
pub line_message-other : (line : List ℕ) → line_message line ≢ Err (Refused OutOfMemory)
unfolding line_message
line_message-other line = message_of_parts-other (line_parts line)

-- ## A refusal of the tape

-- an answer of the tape as that of a line
abbrev pub of_line : Result ℕ Refusal → Result ℕ BatchRefusal
of_line (Ok number) = Ok number
of_line (Err refused) = Err (Refused refused)

-- the answer to a line's message is the line's
pub answered_line : (t : TapeState) (line : List ℕ) (m : Message) (answered : Result ℕ Refusal)
    → Ok m ≡ line_message line → answered ≡ answer t m → of_line answered ≡ line_answer t line
unfolding line_answer answer
answered_line t line m answered brings is = rw (← brings) (ap of_line is ∙ cases (refusal t m))
  where
    cases : (own : Option Refusal) → of_line (answer_by t own) ≡ answer_by_refusal t own
    cases None = refl
    cases (Some refused) = refl

-- the tape after a line's message is that after the line
pub tape_line : (t new : TapeState) (line : List ℕ) (m : Message) → Ok m ≡ line_message line → new ≡ tape_after t m → new ≡ tape_after_line t line
unfolding tape_after_line tape_after
tape_line t new line m brings is = rw (← brings) is

-- a message that the tape refuses leaves the tape as it was
pub refused_tape : (t : TapeState) (m : Message) (r : Refusal) → Err r ≡ answer t m → tape_after t m ≡ t
unfolding answer tape_after
refused_tape t m r is = cases (refusal t m) is
  where
    cases : (own : Option Refusal) → Err r ≡ answer_by t own → tape_by t m own ≡ t
    cases None is = cc
    cases (Some refused) is = refl

-- and the refusal is not out of memory
pub refused-other : (t : TapeState) (m : Message) (r : Refusal) → Err r ≡ answer t m → r ≢ OutOfMemory
unfolding answer
refused-other t m r is = cases (refusal t m) (refusal-other t m) is
  where
    cases : (own : Option Refusal) → own ≢ Some OutOfMemory → Err r ≡ answer_by t own → r ≢ OutOfMemory
    cases None other is = λ memory. cc
    cases (Some refused) other is = λ memory. other (cc)
