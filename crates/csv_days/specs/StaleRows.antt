-- The first row that a tape refused as stale.
use Rattle.std.specs.Prelude.{◌≡◌, ℕ, List, [], ◌∷◌, Option, Some, None, Result, if◌then◌else◌}
use Rattle.reports.specs.Messages.{header_of}
use Rattle.reports.specs.declared.message.Message.{Message}
use Rattle.tape_core.specs.Standing.{last_number}
use Rattle.tape_core.specs.Tape.{TapeState, messages_of}
use Rattle.tape_core.specs.declared.refusal.Refusal.{Refusal}
use Rattle.tape_core.specs.declared.refusal.Refusal.TheVariants.{Stale}
use Rattle.tape_core.specs.Answers.{answer, tape_after}
use Rattle.csv_days.specs.Refusals.{is_refusal}
use Rattle.csv_days.specs.declared.stale_row.StaleRow.{StaleRow}

-- the participant's greatest number on a tape before a message
abbrev pub number_before : TapeState → Message → ℕ
number_before t m = last_number (messages_of t.entries) (header_of m).participant

-- the row of a message after this greatest number of its participant
abbrev pub stale_row : Message → ℕ → StaleRow
stale_row m greatest = record { participant = (header_of m).participant; number = (header_of m).number; greatest = greatest }

-- the first stale row after one row more, which has this answer
unfoldable pub stale_after : Option StaleRow → Result ℕ Refusal → StaleRow → Option StaleRow
stale_after (Some first) answer row = Some first
stale_after None answer row = if is_refusal Stale answer then Some row else None

-- the first message that a tape refuses as stale, if any
unfoldable pub first_stale : TapeState → List Message → Option StaleRow
first_stale t [] = None
first_stale t (m ∷ ms) = if is_refusal Stale (answer t m) then Some (stale_row m (number_before t m)) else first_stale (tape_after t m) ms
