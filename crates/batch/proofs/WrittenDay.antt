-- Shows that a day's answers and report are written as the batch's text.
use Rattle.std.proofs.Common.{◌≡◌, ◌++◌, inl, inr, ℕ, List, Bool, true, false, Option, Result, Ok, refl, ap, append-nil}
use Rattle.std.specs.Io.KnownBytes.{Appends}
use Rattle.std.specs.List.{flat_map}
use Rattle.tape_types.specs.Names.{Names}
use Rattle.sale_matrix.specs.declared.matrix.Matrix.{Matrix}
use Rattle.tape_core.specs.Tape.{TapeState}
use Rattle.batch.specs.Batch.{StopsForMemory, answer_line, answer_lines, batch_text, batch_tape, input_listing, message_lines}
use Rattle.batch.specs.Batch.{tape_after_lines, tape_report}
use Rattle.batch.specs.BatchEnds.{IsTextUnder, WroteForMemory}
use Rattle.batch.specs.Day.{AnswersLines}
use Rattle.batch.specs.Finish.{day_text, report_unless}
use Rattle.batch.specs.Reading.{ReadsBatch}
use Rattle.batch.specs.declared.day.BatchDay.{BatchDay}
use Rattle.batch.specs.declared.batch_refusal.BatchRefusal.{BatchRefusal}
use Rattle.batch.specs.declared.reading.ReadInput.TheVariants.{Answered}
use Rattle.batch.proofs.BatchLemmas.{Appends-same}

-- a day that goes on has the text of its lines
AnswersLines-text : (t : TapeState) (lines : List (List ℕ)) (now : TapeState) (answers : List (Result ℕ BatchRefusal)) → AnswersLines t lines false now answers
    → flat_map answer_line answers ++ tape_report now ≡ answer_lines t lines ++ tape_report (tape_after_lines t lines)
unfolding answer_lines
AnswersLines-text t lines now answers h = rw (h.0, h.1) refl

-- a day of which all answers were written stops out of memory
AnswersLines-stop : (t : TapeState) (lines : List (List ℕ)) (stopped : Bool) (now : TapeState) (answers : List (Result ℕ BatchRefusal))
    (old new : Option (List ℕ))
    → AnswersLines t lines stopped now answers
    → Appends old new (flat_map answer_line answers) → StopsForMemory t lines old new
unfolding answer_lines
AnswersLines-stop t lines false now answers old new h written = inr (inr (Appends-same old new _ _ (ap (flat_map answer_line) h.1) written))
AnswersLines-stop t lines true now answers old new h written = inr (inl (flat_map answer_line answers, (answers, h, refl), written))

-- the text of a day is one that may be written for its lines
AnswersLines-may : (matrix : Matrix) (names : Names) (lines : List (List ℕ)) (stopped : Bool) (now : TapeState) (answers : List (Result ℕ BatchRefusal))
    → AnswersLines (batch_tape matrix names) lines stopped now answers
    → IsTextUnder matrix (Ok names) lines (flat_map answer_line answers ++ report_unless stopped now)
AnswersLines-may matrix names lines false now answers h = inl (AnswersLines-text (batch_tape matrix names) lines now answers h)
AnswersLines-may matrix names lines true now answers h = inr (answers, h, append-nil (flat_map answer_line answers))

-- the text of a batch of which a day was read that goes on
pub ReadsBatch-text : (matrix : Matrix) (day : BatchDay) (input : List ℕ) → day.is_stopped ≡ false → ReadsBatch matrix (Answered day) input → day_text day ≡ batch_text matrix input
ReadsBatch-text matrix day input on read = rw (on, read.1) (AnswersLines-text (batch_tape matrix read.0) (message_lines input) day.tape day.answers.items (rw on at read.2))

-- the text of a day that was read is one that may be written for its input
pub ReadsBatch-may : (matrix : Matrix) (day : BatchDay) (input : List ℕ) → ReadsBatch matrix (Answered day) input → IsTextUnder matrix (input_listing input) (message_lines input) (day_text day)
ReadsBatch-may matrix day input read = rw read.1 (AnswersLines-may matrix read.0 (message_lines input) day.is_stopped day.tape day.answers.items read.2)

-- a batch of which a day was read stops out of memory
pub ReadsBatch-stop : (matrix : Matrix) (day : BatchDay) (input : List ℕ) (old new : Option (List ℕ)) → ReadsBatch matrix (Answered day) input
    → Appends old new (flat_map answer_line day.answers.items) → WroteForMemory matrix (input_listing input) (message_lines input) old new
ReadsBatch-stop matrix day input old new read stop =
    rw read.1 (AnswersLines-stop (batch_tape matrix read.0) (message_lines input) day.is_stopped day.tape day.answers.items old new read.2 stop)
