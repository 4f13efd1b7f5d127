-- Defines what a recorded tape is found to be.
use Rattle.std.specs.Prelude.{◌≡◌, ◌≢◌, ◌⊎◌, ◌++◌, ℕ, List, [], ◌∷◌, All, length, Result, Ok, Err}
use Rattle.sale_matrix.specs.declared.matrix.Matrix.{Matrix}
use Rattle.reports.specs.declared.message.Message.{Message}
use Rattle.csv_messages.specs.Tables.{IsTable}
use Rattle.csv_messages.specs.declared.table_fault.TableFault.TheVariants.{ReadFault}
use Rattle.tape_core.specs.Answers.{answers}
use Rattle.csv_days.specs.Days.{first_tape}
use Rattle.csv_days.specs.Refusals.{AreRefusals}
use Rattle.csv_days.specs.StaleRows.{first_stale}
use Rattle.csv_days.specs.TableEnds.{IsTableEnd}
use Rattle.csv_days.specs.TapeRows.{tape_text}
use Rattle.csv_days.specs.declared.table_end.TableEnd.{TableEnd}
use Rattle.csv_days.specs.declared.table_end.TableEnd.TheVariants.{Table, OutOfMemory}
use Rattle.recorded_tapes.specs.Differences.{IsDifference}
use Rattle.recorded_tapes.specs.Places.{place_behind}
use Rattle.recorded_tapes.specs.declared.difference.Difference.{Difference}
use Rattle.recorded_tapes.specs.declared.verdict.Rows.{Rows}
use Rattle.recorded_tapes.specs.declared.verdict.Verdict.{Verdict}
use Rattle.recorded_tapes.specs.declared.verdict.Verdict.TheVariants.{Recorded, CutOff, Differs}

-- the lines of a text, and after the last of them a line that has no end, or nothing
pub record AreLines (text lines cut : List ℕ) : Type 0 where
  pub split : text ≡ lines ++ cut
  pub ended : (lines ≡ []) ⊎ ((front : List ℕ) × (lines ≡ front ++ 10 ∷ []))
  pub unended : All (λ byte. byte ≢ 10) cut

-- a text is the readable tape of the messages in it
abbrev pub IsRecorded : Matrix → List ℕ → List Message → Type 0
IsRecorded matrix text messages = IsTable text messages × (text ≡ tape_text matrix messages)

-- how many rows there are, which of them the tape refuses, and the first stale one
pub record AreRows (matrix : Matrix) (messages : List Message) (rows : Rows) : Type 0 where
  pub count : rows.count ≡ length messages
  pub refused : AreRefusals (answers (first_tape matrix messages) messages) rows.refusals
  pub stale : rows.refusals.stale ≡ first_stale (first_tape matrix messages) messages

-- lines are the readable tape of the messages in them, or differ from it
abbrev pub IsReplay : Matrix → List ℕ → Result Rows Difference → Type 0
IsReplay matrix lines (Ok rows) = (messages : List Message) × IsRecorded matrix lines messages × AreRows matrix messages rows
IsReplay matrix lines (Err difference) = (messages : List Message) × IsTable lines messages × IsDifference lines (tape_text matrix messages) difference

-- what a text is found to be
abbrev pub IsVerdict : Matrix → List ℕ → Verdict → Type 0
IsVerdict matrix text (Recorded rows) = IsReplay matrix text (Ok rows)
IsVerdict matrix text (CutOff rows line) =
    (lines cut : List ℕ) × AreLines text lines cut × (cut ≢ []) × IsReplay matrix lines (Ok rows) × (line ≡ (place_behind lines).line)
IsVerdict matrix text (Differs difference) = (lines cut : List ℕ) × AreLines text lines cut × IsReplay matrix lines (Err difference)

-- why nothing is found: a read failed, or memory ran out; or the lines are not a table, or the names in them make no listing
abbrev pub IsVerifyEnd : List ℕ → TableEnd → Type 0
IsVerifyEnd text end =
    (end ≡ Table ReadFault) ⊎ (end ≡ OutOfMemory) ⊎ ((lines cut : List ℕ) × AreLines text lines cut × IsTableEnd lines end)
