-- Defines what was written of a table, and why no more.
use Rattle.std.specs.Prelude.{◌≡◌, ℕ, List, Option}
use Rattle.std.specs.Io.KnownBytes.{Appends}
use Rattle.sale_matrix.specs.declared.matrix.Matrix.{Matrix}
use Rattle.reports.specs.declared.message.Message.{Message}
use Rattle.whole_io.specs.Writing.{WritesPrefix}
use Rattle.csv_messages.specs.Tables.{IsTable, IsTableFault}
use Rattle.tape_core.specs.Answers.{answers}
use Rattle.csv_days.specs.Days.{IsListingFault, first_tape}
use Rattle.csv_days.specs.Refusals.{AreRefusals}
use Rattle.csv_days.specs.StaleRows.{first_stale}
use Rattle.csv_days.specs.declared.refusals.Refusals.{Refusals}
use Rattle.csv_days.specs.declared.table_end.TableEnd.{TableEnd}
use Rattle.csv_days.specs.declared.table_end.TableEnd.TheVariants.{Table, Listing, OutOfMemory, WriteFault}
use Rattle.csv_messages.specs.declared.table_fault.TableFault.TheVariants.{ReadFault as Unreadable}
use Rattle.whole_io.specs.declared.reading.ReadFault.{ReadFault}
use Rattle.whole_io.specs.declared.reading.ReadFault.TheVariants as read
use Rattle.whole_io.specs.declared.writing_fault.WritingFault.{WritingFault}
use Rattle.whole_io.specs.declared.writing_fault.WritingFault.TheVariants as fault

-- a text of a whole table was written, and these are the rows that its tape refused, with the first stale one
pub record WritesTable (text : Matrix → List Message → List ℕ) (matrix : Matrix) (input : List ℕ) (refusals : Refusals)
    (old new : Option (List ℕ)) : Type 0 where
  pub messages : List Message
  pub table : IsTable input messages
  pub refused : AreRefusals (answers (first_tape matrix messages) messages) refusals
  pub stale : refusals.stale ≡ first_stale (first_tape matrix messages) messages
  pub written : Appends old new (text matrix messages)

-- a part of a text of a whole table was written, from its front
pub record WritesTablePart (text : Matrix → List Message → List ℕ) (matrix : Matrix) (input : List ℕ) (old new : Option (List ℕ)) : Type 0 where
  pub messages : List Message
  pub table : IsTable input messages
  pub written : WritesPrefix (text matrix messages) old new

-- the end of a table whose text was not written whole
abbrev pub write_end : WritingFault → TableEnd
write_end fault.OutOfMemory = OutOfMemory
write_end fault.WriteFault = WriteFault

-- the end of a table that could not be read whole
abbrev pub read_end : ReadFault → TableEnd
read_end read.Failed = Table Unreadable
read_end read.OutOfMemory = OutOfMemory

-- why messages have no text: their names make no listing; or memory ran out, or a write failed
abbrev pub IsMessagesEnd : List Message → TableEnd → Type 0
IsMessagesEnd messages (Table fault) = ⊥
IsMessagesEnd messages (Listing fault) = IsListingFault messages fault
IsMessagesEnd messages OutOfMemory = Unit {0}
IsMessagesEnd messages WriteFault = Unit {0}

-- why a table has no text: it is no table, or the names in it make no listing; or memory ran out, or a write failed
abbrev pub IsTableEnd : List ℕ → TableEnd → Type 0
IsTableEnd input (Table fault) = IsTableFault input fault
IsTableEnd input (Listing fault) = (messages : List Message) × IsTable input messages × IsListingFault messages fault
IsTableEnd input OutOfMemory = Unit {0}
IsTableEnd input WriteFault = Unit {0}
