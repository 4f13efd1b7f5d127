-- Defines what was read of a whole input, and the ends of reading before that.
use Rattle.std.specs.Prelude.{◌≡◌, ◌≤◌, ◌<◌, ◌+◌, ℕ, List, length, Option, IfSome, Ok, Err, false}
use Rattle.tape_types.specs.Names.{Names}
use Rattle.sale_matrix.specs.declared.matrix.Matrix.{Matrix}
use Rattle.batch.specs.Batch.{INPUT_MOST, batch_tape, input_listing, message_lines}
use Rattle.batch.specs.Day.{HasAnswered}
use Rattle.batch.specs.declared.read_end.ReadEnd.{ReadEnd}
use Rattle.batch.specs.declared.read_end.ReadEnd.TheVariants.{TooLarge, ReadFault, OutOfMemory}
use Rattle.batch.specs.declared.reading.ReadInput.{ReadInput}
use Rattle.batch.specs.declared.reading.ReadInput.TheVariants.{Answered, HeaderRefused}
use Rattle.batch.specs.declared.reading.UnreadInput.{UnreadInput}

-- what was read of a whole input: the day of its lines, or what is wrong with its header
abbrev pub ReadsBatch : Matrix → ReadInput → List ℕ → Type 0
ReadsBatch matrix (Answered day) input = (names : Names) × (input_listing input ≡ Ok names) × HasAnswered (batch_tape matrix names) (message_lines input) day
ReadsBatch matrix (HeaderRefused fault) input = input_listing input ≡ Err fault

-- the lengths of input at which reading ends so
abbrev pub IsReadEnd : ReadEnd → ℕ → Type 0
IsReadEnd TooLarge len = INPUT_MOST < len
IsReadEnd ReadFault len = Unit {0}
IsReadEnd OutOfMemory len = Unit {0}

-- this end of reading may come of an input of which so much was taken, and this is left
abbrev pub EndsReading : Option (List ℕ) → ℕ → ReadEnd → Type 0
EndsReading left taken end = IfSome left (λ bytes. IsReadEnd end (taken + length bytes))

-- an input of which so much was taken, and this is left, is within the limit
abbrev pub Fits : Option (List ℕ) → ℕ → Type 0
Fits left taken = IfSome left (λ bytes. taken + length bytes ≤ INPUT_MOST)

-- if memory ran out for reading, it did not run out at a line of the day
abbrev pub GoesOn : UnreadInput → Type 0
GoesOn unread = unread.end ≡ OutOfMemory → IfSome unread.day (λ day. day.is_stopped ≡ false)
