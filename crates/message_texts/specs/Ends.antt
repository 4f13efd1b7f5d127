-- Defines what was written of a whole input, and why it was not.
use Rattle.std.specs.Prelude.{ℕ, List, Option}
use Rattle.std.specs.Io.KnownBytes.{Appends}
use Rattle.whole_io.specs.declared.reading.ReadFault.{ReadFault}
use Rattle.whole_io.specs.declared.reading.ReadFault.TheVariants as line
use Rattle.csv_messages.specs.Tables.{IsTableFault}
use Rattle.reports.specs.declared.message.Message.{Message}
use Rattle.whole_io.specs.Writing.{WritesPrefix}
use Rattle.csv_days.specs.declared.table_end.TableEnd.{TableEnd}
use Rattle.csv_days.specs.declared.table_end.TableEnd.TheVariants.{Table, Listing, OutOfMemory, WriteFault}
use Rattle.whole_io.specs.declared.writing_fault.WritingFault.{WritingFault}
use Rattle.whole_io.specs.declared.writing_fault.WritingFault.TheVariants as fault
use Rattle.message_texts.specs.declared.text_end.TextEnd.{TextEnd}
use Rattle.message_texts.specs.declared.text_end.TextEnd.TheVariants as text_end

-- a text of messages that are so was written
pub record WritesText (Are : List Message → Type 0) (text : List Message → List ℕ) (old new : Option (List ℕ)) : Type 0 where
  pub messages : List Message
  pub are : Are messages
  pub written : Appends old new (text messages)

-- a prefix of a text of messages that are so was written
pub record WritesTextPart (Are : List Message → Type 0) (text : List Message → List ℕ) (old new : Option (List ℕ)) : Type 0 where
  pub messages : List Message
  pub are : Are messages
  pub written : WritesPrefix (text messages) old new

-- the end of decoding if a line could not be taken
abbrev pub line_end : ReadFault → TextEnd
line_end line.Failed = text_end.ReadFault
line_end line.OutOfMemory = text_end.OutOfMemory

-- the end of decoding if the table was not written whole
abbrev pub write_end : WritingFault → TextEnd
write_end fault.OutOfMemory = text_end.OutOfMemory
write_end fault.WriteFault = text_end.WriteFault

-- why a table has no bytes: it is no table; or memory ran out, or a write failed
abbrev pub IsReadingEnd : List ℕ → TableEnd → Type 0
IsReadingEnd input (Table fault) = IsTableFault input fault
IsReadingEnd input (Listing fault) = ⊥
IsReadingEnd input OutOfMemory = Unit {0}
IsReadingEnd input WriteFault = Unit {0}
