-- Lemmas about the verdict on a recorded tape.
use Rattle.std.proofs.Common.{◌≡◌, ◌⊎◌, ℕ, List, Option, Some, None, Ok, Err, IfSome, inl, inr, refl}
use Rattle.sale_matrix.specs.declared.matrix.Matrix.{Matrix}
use Rattle.csv_days.specs.declared.table_end.TableEnd.TheVariants.{OutOfMemory}
use Rattle.recorded_tapes.specs.Verdicts.{IsVerdict, IsVerifyEnd}
use Rattle.recorded_tapes.specs.declared.verdict.Verdict.{Verdict}
use Rattle.desk_words.specs.VerifyRuns.{RunsVerify, TellsVerdict}

-- any input may end by memory running out
memory-ends : (input : Option (List ℕ)) → IfSome input (λ bytes. IsVerifyEnd bytes OutOfMemory)
memory-ends None = tt
memory-ends (Some bytes) = inr (inl refl)

-- the verdict was written, or there was no memory for its line
pub runs-verdict : {W E : Type 0} (matrix : Matrix) (input old new : Option (List ℕ)) (status : ℕ) (writer_old writer_new : W) (errors_old errors_new : E)
    (said_old said_new : Option (List ℕ)) (verdict : Verdict) → IfSome input (λ bytes. IsVerdict matrix bytes verdict)
    → TellsVerdict (Ok verdict) status writer_old writer_new old new errors_old errors_new said_old said_new
    ⊎ TellsVerdict (Err OutOfMemory) status writer_old writer_new old new errors_old errors_new said_old said_new
    → RunsVerify matrix input old new status writer_old writer_new errors_old errors_new said_old said_new
runs-verdict matrix input old new status writer_old writer_new errors_old errors_new said_old said_new verdict found (inl tells) =
    record { run = Ok verdict; finds = found; tells = tells }
runs-verdict matrix input old new status writer_old writer_new errors_old errors_new said_old said_new verdict found (inr tells) =
    record { run = Err OutOfMemory; finds = memory-ends input; tells = tells }
