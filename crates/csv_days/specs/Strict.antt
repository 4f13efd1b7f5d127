-- Defines a strict run: nothing is written if a row is refused.
use Rattle.std.specs.Prelude.{◌≡◌, ℕ, Bool, List, [], is_ok, if◌then◌else◌}
use Rattle.std.specs.List.{list_all}
use Rattle.sale_matrix.specs.declared.matrix.Matrix.{Matrix}
use Rattle.reports.specs.declared.message.Message.{Message}
use Rattle.tape_core.specs.Tape.{TapeState}
use Rattle.csv_messages.specs.Tables.{IsTable}
use Rattle.tape_core.specs.Answers.{answers}
use Rattle.csv_days.specs.Days.{MakeListing, first_tape}
use Rattle.csv_days.specs.Refusals.{AreRefusals}
use Rattle.csv_days.specs.StaleRows.{first_stale}
use Rattle.csv_days.specs.declared.refusals.Refusals.{Refusals}

-- whether a tape admits all these messages
abbrev pub admits_all : TapeState → List Message → Bool
admits_all t messages = list_all is_ok (answers t messages)

-- what a strict run writes of messages: the text, or nothing if the tape refuses one
unfoldable pub strictly : (Matrix → List Message → List ℕ) → Matrix → List Message → List ℕ
strictly text matrix messages = if admits_all (first_tape matrix messages) messages then text matrix messages else []

-- the names of messages make a listing, and these are the rows that their tape refuses, with the first stale one
pub record IsToldOf (matrix : Matrix) (messages : List Message) (refusals : Refusals) : Type 0 where
  pub listed : MakeListing messages
  pub refused : AreRefusals (answers (first_tape matrix messages) messages) refusals
  pub stale : refusals.stale ≡ first_stale (first_tape matrix messages) messages

-- the names in a table make a listing
abbrev pub IsListed : List ℕ → Type 0
IsListed input = (messages : List Message) × IsTable input messages × MakeListing messages
