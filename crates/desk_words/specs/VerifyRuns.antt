-- What `verify` does with a recorded tape: its verdict, and its status.
use Rattle.std.specs.Prelude.{◌≡◌, ◌⊎◌, ℕ, List, Option, IfSome, Result, Ok, Err}
use Rattle.sale_matrix.specs.declared.matrix.Matrix.{Matrix}
use Rattle.whole_io.specs.Lines.{WritesLines}
use Rattle.csv_days.specs.EndTexts.{end_status}
use Rattle.csv_days.specs.declared.table_end.TableEnd.{TableEnd}
use Rattle.recorded_tapes.specs.Verdicts.{IsVerdict, IsVerifyEnd}
use Rattle.recorded_tapes.specs.declared.verdict.Verdict.{Verdict}
use Rattle.desk_words.specs.Outputs.{Grows}
use Rattle.desk_words.specs.Verdicts.{verdict_status}

-- the verdict on a recorded tape, or why there is none
abbrev pub Finds : Matrix → List ℕ → Result Verdict TableEnd → Type 0
Finds matrix input (Ok verdict) = IsVerdict matrix input verdict
Finds matrix input (Err end) = IsVerifyEnd input end

-- the status is that of the verdict, or a write failed (4); or nothing was written, and the status is that of the end
abbrev pub TellsVerdict : {W E : Type 0} → Result Verdict TableEnd → ℕ → W → W → Option (List ℕ) → Option (List ℕ) → E → E
    → Option (List ℕ) → Option (List ℕ) → Type 0
TellsVerdict (Ok verdict) status writer_old writer_new old new errors_old errors_new said_old said_new =
    Grows old new
    × (((status ≡ verdict_status verdict) × (errors_new ≡ errors_old)) ⊎ ((status ≡ 4) × WritesLines said_old said_new))
TellsVerdict (Err end) status writer_old writer_new old new errors_old errors_new said_old said_new =
    (status ≡ end_status end) × (writer_new ≡ writer_old) × WritesLines said_old said_new

-- a recorded tape was verified
pub record RunsVerify {W E : Type 0} (matrix : Matrix) (input old new : Option (List ℕ)) (status : ℕ) (writer_old writer_new : W)
    (errors_old errors_new : E) (said_old said_new : Option (List ℕ)) : Type 0 where
  pub run : Result Verdict TableEnd
  pub finds : IfSome input (λ bytes. Finds matrix bytes run)
  pub tells : TellsVerdict run status writer_old writer_new old new errors_old errors_new said_old said_new
