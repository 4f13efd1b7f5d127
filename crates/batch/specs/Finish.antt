-- Defines what is written of what was read, and how writing ends.
use Rattle.std.specs.Prelude.{◌≡◌, ℕ, Bool, true, false, List, [], ◌++◌, Option}
use Rattle.std.specs.Io.KnownBytes.{Appends}
use Rattle.std.specs.List.{flat_map}
use Rattle.tape_core.specs.Tape.{TapeState}
use Rattle.batch.specs.Batch.{answer_line, fault_line, tape_report}
use Rattle.whole_io.specs.Writing.{WritesPrefix}
use Rattle.batch.specs.declared.batch_end.BatchEnd.{BatchEnd}
use Rattle.batch.specs.declared.batch_end.BatchEnd.TheVariants.{Done, BadHeader, TooLarge, ReadFault, WriteFault, OutOfMemory}
use Rattle.batch.specs.declared.day.BatchDay.{BatchDay}
use Rattle.batch.specs.declared.reading.ReadInput.{ReadInput}
use Rattle.batch.specs.declared.reading.ReadInput.TheVariants.{Answered, HeaderRefused}

-- the report of a tape, or nothing if memory ran out at a line
abbrev pub report_unless : Bool → TapeState → List ℕ
report_unless false t = tape_report t
report_unless true t = []

-- the text of a day: its answers, and the report of its tape unless memory ran out at a line
abbrev pub day_text : BatchDay → List ℕ
day_text day = flat_map answer_line day.answers.items ++ report_unless day.is_stopped day.tape

-- what was written of a day at this end; a day at one of whose lines memory ran out is never done
abbrev pub FinishesDay : BatchDay → BatchEnd → Option (List ℕ) → Option (List ℕ) → Type 0
FinishesDay day Done old new = (day.is_stopped ≡ false) × Appends old new (day_text day)
FinishesDay day OutOfMemory old new = Appends old new (flat_map answer_line day.answers.items)
FinishesDay day WriteFault old new = WritesPrefix (day_text day) old new
FinishesDay day BadHeader old new = ⊥
FinishesDay day TooLarge old new = ⊥
FinishesDay day ReadFault old new = ⊥

-- what was written of a text at this end, if nothing is allocated
abbrev pub FinishesRefusal : List ℕ → BatchEnd → Option (List ℕ) → Option (List ℕ) → Type 0
FinishesRefusal text BadHeader old new = Appends old new text
FinishesRefusal text WriteFault old new = WritesPrefix text old new
FinishesRefusal text Done old new = ⊥
FinishesRefusal text OutOfMemory old new = ⊥
FinishesRefusal text TooLarge old new = ⊥
FinishesRefusal text ReadFault old new = ⊥

-- what was written of what was read, and the ends at which it was
abbrev pub Finishes : ReadInput → BatchEnd → Option (List ℕ) → Option (List ℕ) → Type 0
Finishes (Answered day) end old new = FinishesDay day end old new
Finishes (HeaderRefused fault) end old new = FinishesRefusal (fault_line fault) end old new

-- the end of a batch that ran out of memory at a line of its day, and what was written: the answers, of which the refusal is the last,
-- unless a read or a write failed or the input is too large
abbrev pub EndsStopped : BatchDay → BatchEnd → Option (List ℕ) → Option (List ℕ) → Type 0
EndsStopped day OutOfMemory old new = Appends old new (flat_map answer_line day.answers.items)
EndsStopped day TooLarge old new = Unit {0}
EndsStopped day ReadFault old new = Unit {0}
EndsStopped day WriteFault old new = Unit {0}
EndsStopped day Done old new = ⊥
EndsStopped day BadHeader old new = ⊥

-- if memory ran out at a line of what was read, the batch ended as it must then
abbrev pub EndsAfterStop : ReadInput → BatchEnd → Option (List ℕ) → Option (List ℕ) → Type 0
EndsAfterStop (Answered day) end old new = day.is_stopped ≡ true → EndsStopped day end old new
EndsAfterStop (HeaderRefused fault) end old new = Unit {0}
