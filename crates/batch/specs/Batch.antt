-- Defines what a batch writes for a whole input, and what if memory runs out.
use Rattle.std.specs.Prelude.{◌≡◌, ◌⊎◌, ◌+◌, ℕ, List, [], ◌∷◌, ◌++◌, length, drop, fold, slice_index_or, Option, Some, None, Result, Ok, Err, IsOk}
use Rattle.std.specs.Prelude.{decimal, codes}
use Rattle.std.specs.Io.KnownBytes.{Appends, Keeps}
use Rattle.std.specs.List.{flat_map}
use Rattle.tape_types.specs.Names.{Names}
use Rattle.sale_matrix.specs.declared.matrix.Matrix.{Matrix}
use Rattle.reports.specs.declared.message.Message.{Message}
use Rattle.tape_core.specs.Answers.{tape_by}
use Rattle.tape_core.specs.Tape.{TapeState, empty_tape, refusal}
use Rattle.tape_core.specs.declared.refusal.Refusal.{Refusal}
use Rattle.tape_core.specs.declared.refusal.Refusal.TheVariants.{OutOfMemory}
use Rattle.tape_types.specs.Header.{header_fault_code, header_fault_name}
use Rattle.batch.specs.Header.{header_listing}
use Rattle.batch.specs.BatchRefusals.{batch_refusal_code, batch_refusal_name}
use Rattle.batch.specs.Lines.{lines_of}
use Rattle.batch.specs.MessageLine.{line_message}
use Rattle.day_report.specs.ReportText.{report_text}
use Rattle.day_report.specs.Rows.{report_rows}
use Rattle.tape_types.specs.declared.header_fault.HeaderFault.{HeaderFault}
use Rattle.batch.specs.declared.batch_refusal.BatchRefusal.{BatchRefusal}
use Rattle.batch.specs.declared.batch_refusal.BatchRefusal.TheVariants.{Refused}

-- the most bytes that a batch reads
abbrev pub INPUT_MOST : ℕ
INPUT_MOST = 16777216

-- the most entries that the tape of a batch has, whatever the limit of other tapes
abbrev pub BATCH_TAPE_MOST : ℕ
BATCH_TAPE_MOST = 1048576

-- ## Answers

-- the answer to a message of which the tape has this refusal, or none
abbrev pub answer_by_refusal : TapeState → Option Refusal → Result ℕ BatchRefusal
answer_by_refusal t None = Ok (length t.entries + 1)
answer_by_refusal t (Some refused) = Err (Refused refused)

-- the answer to the message of a line, or to a line without one
abbrev pub answer_to : TapeState → Result Message BatchRefusal → Result ℕ BatchRefusal
answer_to t (Ok m) = answer_by_refusal t (refusal t m)
answer_to t (Err refused) = Err refused

-- the tape after the message of a line, or after a line without one
abbrev pub tape_behind : TapeState → Result Message BatchRefusal → TapeState
tape_behind t (Ok m) = tape_by t m (refusal t m)
tape_behind t (Err refused) = t

-- the answer to a line: a tape number, or the first refusal
unfoldable pub line_answer : TapeState → List ℕ → Result ℕ BatchRefusal
line_answer t line = answer_to t (line_message line)

-- the tape after a line
unfoldable pub tape_after_line : TapeState → List ℕ → TapeState
tape_after_line t line = tape_behind t (line_message line)

-- the answers to lines, one after another
unfoldable pub line_answers : TapeState → List (List ℕ) → List (Result ℕ BatchRefusal)
line_answers t [] = []
line_answers t (line ∷ lines) = line_answer t line ∷ line_answers (tape_after_line t line) lines

-- the tape after lines
abbrev pub tape_after_lines : TapeState → List (List ℕ) → TapeState
tape_after_lines t lines = fold tape_after_line t lines

-- ## The text

-- a refusal by number and name
abbrev pub refusal_text : ℕ → List ℕ → List ℕ
refusal_text code name = codes "refused " ++ (decimal code ++ (32 ∷ name))

-- an answer as it is written
abbrev pub line_answer_text : Result ℕ BatchRefusal → List ℕ
line_answer_text (Ok number) = decimal number
line_answer_text (Err refused) = refusal_text (batch_refusal_code refused) (batch_refusal_name refused)

-- an answer on its line
abbrev pub answer_line : Result ℕ BatchRefusal → List ℕ
answer_line answer = line_answer_text answer ++ 10 ∷ []

-- the answers to lines, each on its line
unfoldable pub answer_lines : TapeState → List (List ℕ) → List ℕ
answer_lines t lines = flat_map answer_line (line_answers t lines)

-- the open tape of a listing before its first message, by a matrix
abbrev pub batch_tape : Matrix → Names → TapeState
batch_tape matrix names = empty_tape names BATCH_TAPE_MOST matrix

-- the text of the report of a tape
abbrev pub tape_report : TapeState → List ℕ
tape_report t = report_text (report_rows t)

-- the answers to the message lines, and the report of the resulting tape
abbrev pub body_text : Matrix → Names → List (List ℕ) → List ℕ
body_text matrix names lines =
    answer_lines (batch_tape matrix names) lines ++ tape_report (tape_after_lines (batch_tape matrix names) lines)

-- a refused header on its line
abbrev pub fault_line : HeaderFault → List ℕ
fault_line fault = refusal_text (header_fault_code fault) (header_fault_name fault) ++ 10 ∷ []

-- the text of a batch by its header: the refusal alone, or the body
abbrev pub text_under : Matrix → Result Names HeaderFault → List (List ℕ) → List ℕ
text_under matrix (Ok names) lines = body_text matrix names lines
text_under matrix (Err fault) lines = fault_line fault

-- the line at this position, empty if there is none
abbrev pub line_at : List ℕ → ℕ → List ℕ
line_at input position = slice_index_or (lines_of input) position []

-- the listing of an input, or what is wrong with its header
abbrev pub input_listing : List ℕ → Result Names HeaderFault
input_listing input = header_listing (line_at input 0) (line_at input 1)

-- the lines after the header
abbrev pub message_lines : List ℕ → List (List ℕ)
message_lines input = drop 2 (lines_of input)

-- the whole output for a whole input, by a matrix
abbrev pub batch_text : Matrix → List ℕ → List ℕ
batch_text matrix input = text_under matrix (input_listing input) (message_lines input)

-- ## Out of memory

-- the answers to the first lines, and then a refusal out of memory: the next line has an acceptable message, and nothing
-- follows the refusal
pub record RunsOut (t : TapeState) (lines : List (List ℕ)) (answers : List (Result ℕ BatchRefusal)) : Type 0 where
  pub answered : List (List ℕ)
  pub refused : List ℕ
  pub left : List (List ℕ)
  pub split : lines ≡ answered ++ refused ∷ left
  pub acceptable : IsOk (line_answer (tape_after_lines t answered) refused)
  pub answers_are : answers ≡ line_answers t answered ++ Err (Refused OutOfMemory) ∷ []

-- the text of answers of which the last is a refusal out of memory
abbrev pub IsStopText : TapeState → List (List ℕ) → List ℕ → Type 0
IsStopText t lines text = (answers : List (Result ℕ BatchRefusal)) × RunsOut t lines answers × (text ≡ flat_map answer_line answers)

-- the answers up to a refusal out of memory were written
abbrev pub StopsAtLine : TapeState → List (List ℕ) → Option (List ℕ) → Option (List ℕ) → Type 0
StopsAtLine t lines old new = (text : List ℕ) × IsStopText t lines text × Appends old new text

-- what was written if memory ran out: nothing, the answers up to a refusal for it, or all answers and no report
abbrev pub StopsForMemory : TapeState → List (List ℕ) → Option (List ℕ) → Option (List ℕ) → Type 0
StopsForMemory t lines old new = Keeps old new ⊎ (StopsAtLine t lines old new ⊎ Appends old new (answer_lines t lines))
