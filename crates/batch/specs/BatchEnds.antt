-- Defines, for each end of a batch, what was written and of which inputs it comes.
use Rattle.std.specs.Prelude.{◌≡◌, ◌≤◌, ◌<◌, ◌⊎◌, ℕ, List, length, Option, Result, IfSome, IsOk, IsErr, Ok, Err}
use Rattle.std.specs.Io.KnownBytes.{Appends, Keeps}
use Rattle.tape_types.specs.Names.{Names}
use Rattle.sale_matrix.specs.declared.matrix.Matrix.{Matrix}
use Rattle.batch.specs.Batch.{INPUT_MOST, IsStopText, StopsForMemory, batch_text, body_text, batch_tape, fault_line, input_listing, message_lines}
use Rattle.whole_io.specs.Writing.{WritesPrefix}
use Rattle.batch.specs.declared.batch_end.BatchEnd.{BatchEnd}
use Rattle.batch.specs.declared.batch_end.BatchEnd.TheVariants.{Done, BadHeader, TooLarge, ReadFault, WriteFault, OutOfMemory}
use Rattle.tape_types.specs.declared.header_fault.HeaderFault.{HeaderFault}

-- what was written under a header if memory ran out
abbrev pub WroteForMemory : Matrix → Result Names HeaderFault → List (List ℕ) → Option (List ℕ) → Option (List ℕ) → Type 0
WroteForMemory matrix (Ok names) lines old new = StopsForMemory (batch_tape matrix names) lines old new
WroteForMemory matrix (Err fault) lines old new = Keeps old new

-- a text that is written under a header if no write fails: the batch's, or the answers up to a refusal out of memory
abbrev pub IsTextUnder : Matrix → Result Names HeaderFault → List (List ℕ) → List ℕ → Type 0
IsTextUnder matrix (Ok names) lines text = (text ≡ body_text matrix names lines) ⊎ IsStopText (batch_tape matrix names) lines text
IsTextUnder matrix (Err fault) lines text = text ≡ fault_line fault

-- what was written if a write failed: a prefix of such a text, and nothing else
abbrev pub WroteToFault : Matrix → List ℕ → Option (List ℕ) → Option (List ℕ) → Type 0
WroteToFault matrix input old new = (text : List ℕ) × IsTextUnder matrix (input_listing input) (message_lines input) text × WritesPrefix text old new

-- what was written at this end, by a matrix
abbrev pub Wrote : Matrix → BatchEnd → List ℕ → Option (List ℕ) → Option (List ℕ) → Type 0
Wrote matrix Done input old new = Appends old new (batch_text matrix input)
Wrote matrix BadHeader input old new = Appends old new (batch_text matrix input)
Wrote matrix TooLarge input old new = Keeps old new
Wrote matrix ReadFault input old new = Keeps old new
Wrote matrix WriteFault input old new = WroteToFault matrix input old new
Wrote matrix OutOfMemory input old new = WroteForMemory matrix (input_listing input) (message_lines input) old new

-- the inputs at which this end comes
abbrev pub EndsAt : BatchEnd → List ℕ → Type 0
EndsAt Done input = (length input ≤ INPUT_MOST) × IsOk (input_listing input)
EndsAt BadHeader input = (length input ≤ INPUT_MOST) × IsErr (input_listing input)
EndsAt TooLarge input = INPUT_MOST < length input
EndsAt ReadFault input = Unit {0}
EndsAt WriteFault input = length input ≤ INPUT_MOST
EndsAt OutOfMemory input = Unit {0}

-- a batch has ended so: of a known input it has written what its end says, and the end is one of that input; too large and a read fault
-- leave the writer as it was, whatever the reader
pub record WritesBatch {W : Type 0} (matrix : Matrix) (end : BatchEnd) (input old new : Option (List ℕ)) (before after : W) : Type 0 where
  pub wrote : IfSome input (λ input. Wrote matrix end input old new)
  pub ends : IfSome input (EndsAt end)
  pub silent : (end ≡ TooLarge) ⊎ (end ≡ ReadFault) → after ≡ before
