-- Shows that lines that were taken and counted were taken, and which ends a line that could not be taken has.
use Rattle.std.proofs.Common.{◌≡◌, ◌⊎◌, ℕ, List, Option, Some, None, inl, inr}
use Rattle.batch.specs.Input.{TakesLines as TakesCounted}
use Rattle.whole_io.specs.declared.reading.ReadFault.{ReadFault as Unread}
use Rattle.whole_io.specs.declared.reading.ReadFault.TheVariants as line
use Rattle.message_texts.specs.Ends.{line_end}
use Rattle.message_texts.specs.TextLines.{TakesLines}
use Rattle.message_texts.specs.declared.text_end.TextEnd.{TextEnd}
use Rattle.message_texts.specs.declared.text_end.TextEnd.TheVariants.{OutOfMemory, ReadFault}

-- lines whose bytes are counted were taken, whatever the count
pub taken_uncounted : (known left : Option (List ℕ)) (len : ℕ) (lines : List (List ℕ)) → TakesCounted known left 0 len lines → TakesLines known left lines
taken_uncounted None left len lines took = tt
taken_uncounted (Some x) None len lines took = took
taken_uncounted (Some x) (Some y) len lines took = took.0

-- a line that could not be taken is a failed read or a want of memory
pub line_end-is : (fault : Unread) (end : TextEnd) → end ≡ line_end fault → (end ≡ OutOfMemory) ⊎ (end ≡ ReadFault)
line_end-is line.Failed end is = inr is
line_end-is line.OutOfMemory end is = inl is
