-- Defines the tape and the answers of a day after some of its lines.
use Rattle.std.specs.Prelude.{◌≡◌, ℕ, Bool, true, false, List, ◌++◌, Option, Result}
use Rattle.tape_core.specs.Tape.{TapeState}
use Rattle.batch.specs.Batch.{RunsOut, line_answers, tape_after_lines}
use Rattle.batch.specs.Input.{TakesLines}
use Rattle.batch.specs.declared.day.BatchDay.{BatchDay}
use Rattle.batch.specs.declared.batch_refusal.BatchRefusal.{BatchRefusal}

-- a tape and answers after lines: all are answered, or memory ran out at one of them
abbrev pub AnswersLines : TapeState → List (List ℕ) → Bool → TapeState → List (Result ℕ BatchRefusal) → Type 0
AnswersLines t lines false now answers = (now ≡ tape_after_lines t lines) × (answers ≡ line_answers t lines)
AnswersLines t lines true now answers = RunsOut t lines answers

-- a day began with this tape, and has answered these lines
abbrev pub HasAnswered : TapeState → List (List ℕ) → BatchDay → Type 0
HasAnswered t lines day = AnswersLines t lines day.is_stopped day.tape day.answers.items

-- a day has answered these lines after its earlier ones
abbrev pub AnswersMore : BatchDay → BatchDay → List (List ℕ) → Type 0
AnswersMore old new lines = (t : TapeState) (before : List (List ℕ)) → HasAnswered t before old → HasAnswered t (before ++ lines) new

-- a day has answered further lines, which were taken from the front of an input
pub record AnswersTaken (old new : BatchDay) (bytes left : Option (List ℕ)) (taken taken_now : ℕ) : Type 0 where
  pub lines : List (List ℕ)
  pub answered : AnswersMore old new lines
  pub took : TakesLines bytes left taken taken_now lines
