-- Defines the laws of recorded tapes.
use Rattle.std.specs.Prelude.{◌≡◌, List, ◌∷◌, All}
use Rattle.sale_matrix.specs.declared.matrix.Matrix.{Matrix}
use Rattle.reports.specs.Spelling.{IsMessage}
use Rattle.reports.specs.declared.message.Message.{Message}
use Rattle.csv_messages.specs.Tables.{IsTable}
use Rattle.csv_days.specs.TapeRows.{tape_text}
use Rattle.recorded_tapes.specs.Verdicts.{IsVerdict}
use Rattle.recorded_tapes.specs.declared.verdict.Rows.{Rows}
use Rattle.recorded_tapes.specs.declared.verdict.Verdict.{Verdict}
use Rattle.recorded_tapes.specs.declared.verdict.Verdict.TheVariants.{Recorded}

-- the readable tape of one message or more reads back as those messages
abbrev pub TapeRoundTrip : Type 0
TapeRoundTrip = (matrix : Matrix) (m : Message) (ms : List Message) → All IsMessage (m ∷ ms) → IsTable (tape_text matrix (m ∷ ms)) (m ∷ ms)

-- each readable tape of one message or more is found to be as recorded, whatever its messages
abbrev pub TapesAreRecorded : Type 0
TapesAreRecorded = (matrix : Matrix) (m : Message) (ms : List Message) (verdict : Verdict) → All IsMessage (m ∷ ms)
    → IsVerdict matrix (tape_text matrix (m ∷ ms)) verdict → (rows : Rows) × (verdict ≡ Recorded rows)
