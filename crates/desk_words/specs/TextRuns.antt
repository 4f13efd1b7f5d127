-- What `encode`, `decode` and `line` do with an input: the text of its messages that they write, and the status.
use Rattle.std.specs.Prelude.{◌≡◌, ◌≢◌, ◌⊎◌, ℕ, List, Option, IfSome, Result, Ok, Err, IsOk, OnOk, IfErr}
use Rattle.std.specs.Io.KnownBytes.{Keeps}
use Rattle.reports.specs.declared.message.Message.{Message}
use Rattle.whole_io.specs.Lines.{WritesLines}
use Rattle.csv_messages.specs.TableTexts.{table_text}
use Rattle.csv_messages.specs.Tables.{IsTable}
use Rattle.command_line.specs.declared.command.Conversion.{Conversion}
use Rattle.command_line.specs.declared.command.Conversion.TheVariants.{Encode, Decode, Line}
use Rattle.csv_days.specs.EndTexts.{end_status}
use Rattle.csv_days.specs.TableEnds.{IsTableEnd}
use Rattle.csv_days.specs.declared.table_end.TableEnd.{TableEnd}
use Rattle.csv_days.specs.declared.table_end.TableEnd.TheVariants.{OutOfMemory, WriteFault}
use Rattle.message_texts.specs.DecodedTexts.{IsText, IsTextEnd}
use Rattle.message_texts.specs.EncodedTexts.{encoded_text}
use Rattle.message_texts.specs.EndTexts as text
use Rattle.message_texts.specs.Ends.{IsReadingEnd, WritesText, WritesTextPart}
use Rattle.message_texts.specs.OwnBytes.{line_bytes}
use Rattle.message_texts.specs.declared.text_end.TextEnd.{TextEnd}
use Rattle.message_texts.specs.declared.text_end.TextEnd.TheVariants as text_end

-- ## Ends

-- the ends of a kind of text: the status of each, and the two at which a part may have been written
pub record Ends (End : Type 0) : Type 0 where
  pub status : End → ℕ
  pub write_fault : End
  pub out_of_memory : End

-- the ends of a table
abbrev pub table_ends : Ends TableEnd
table_ends = record { status = end_status; write_fault = WriteFault; out_of_memory = OutOfMemory }

-- the ends of a batch's text
abbrev pub text_ends : Ends TextEnd
text_ends = record { status = text.end_status; write_fault = text_end.WriteFault; out_of_memory = text_end.OutOfMemory }

-- ## Conversions

-- a kind of text: how its runs may end, which messages an input has, the text of these, and at which ends an input is not read
pub record TextKind : Type 1 where
  pub End : Type 0
  pub ends : Ends End
  pub Are : List ℕ → List Message → Type 0
  pub text_of : List Message → List ℕ
  pub IsEnd : List ℕ → End → Type 0

-- the text of a batch, of a table
abbrev pub encoded : TextKind
encoded = record { End = TableEnd; ends = table_ends; Are = IsTable; text_of = encoded_text; IsEnd = IsTableEnd }

-- a table, of the text of a batch
abbrev pub decoded : TextKind
decoded = record { End = TextEnd; ends = text_ends; Are = IsText; text_of = table_text; IsEnd = IsTextEnd }

-- the bytes of a participant's messages, of a table
abbrev pub line_of : ℕ → TextKind
line_of participant = record { End = TableEnd; ends = table_ends; Are = IsTable; text_of = line_bytes participant; IsEnd = IsReadingEnd }

-- the text that a conversion writes
abbrev pub kind_of : Conversion → TextKind
kind_of Encode = encoded
kind_of Decode = decoded
kind_of (Line participant) = line_of participant

-- ## Runs

-- the status of a run
abbrev pub text_status : {End : Type 0} → Ends End → Result (Unit {0}) End → ℕ
text_status ends (Ok done) = 0
text_status ends (Err end) = ends.status end

-- a text of an input's messages was asked for: the status is that of how it ended, and nothing else was written
pub record RunsText {W E : Type 0} (kind : TextKind) (input old new : Option (List ℕ)) (status : ℕ) (writer_old writer_new : W)
    (errors_old errors_new : E) (said_old said_new : Option (List ℕ)) : Type 0 where
  pub run : Result (Unit {0}) kind.End
  pub status_is : status ≡ text_status kind.ends run
  pub written : IfSome input (λ bytes. OnOk run (WritesText (kind.Are bytes) kind.text_of old new))
  pub ended : IfSome input (λ bytes. IfErr run (kind.IsEnd bytes))
  pub part : (run ≡ Err kind.ends.write_fault) ⊎ (run ≡ Err kind.ends.out_of_memory)
      → IfSome input (λ bytes. Keeps old new ⊎ WritesTextPart (kind.Are bytes) kind.text_of old new)
  pub silent : (end : kind.End) → run ≡ Err end → end ≢ kind.ends.write_fault → end ≢ kind.ends.out_of_memory → writer_new ≡ writer_old
  pub quiet : IsOk run → errors_new ≡ errors_old
  pub said : WritesLines said_old said_new
