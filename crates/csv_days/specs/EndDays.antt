-- Defines what a day has answered of which only the end is asked, for every listing, since that is known only at the end.
use Rattle.std.specs.Prelude.{◌≡◌, ◌⊎◌, ◌<◌, ◌+◌, ◌++◌, ℕ, true, List, length, fold, Option, IfSome}
use Rattle.std.specs.List.{list_all}
use Rattle.tape_types.specs.Names.{Names}
use Rattle.tape_types.specs.Ranges.{SYMBOLS_MOST, TAPE_MOST}
use Rattle.sale_matrix.specs.declared.matrix.Matrix.{Matrix}
use Rattle.reports.specs.Messages.{header_of}
use Rattle.reports.specs.declared.message.Message.{Message}
use Rattle.tape_core.specs.Ending.{KeepsEnd}
use Rattle.tape_core.specs.Tape.{TapeState, empty_tape, lists_participant, lists_symbol}
use Rattle.csv_messages.specs.TableReading.{HasTaken, TakesMore, TakesRest}
use Rattle.csv_messages.specs.Tables.{FIRST_ROW, IsTable}
use Rattle.csv_messages.specs.declared.row_reader.RowReader.{RowReader}
use Rattle.tape_core.specs.Answers.{answers, tape_after}
use Rattle.csv_days.specs.Days.{participants_of, symbol_of, symbols_of}
use Rattle.csv_days.specs.Refusals.{AreRefusals}
use Rattle.csv_days.specs.StaleRows.{first_stale}
use Rattle.csv_days.specs.TableEnds.{IsTableEnd}
use Rattle.csv_days.specs.declared.day_names.DayNames.{DayNames}
use Rattle.csv_days.specs.declared.end_day.EndDay.{EndDay}
use Rattle.csv_days.specs.declared.table_end.TableEnd.{TableEnd}

-- some symbols are all, or both are more than a listing takes
abbrev pub AreAllOrTooMany : List (List ℕ) → List (List ℕ) → Type 0
AreAllOrTooMany some all = (some ≡ all) ⊎ ((SYMBOLS_MOST < length some) × (SYMBOLS_MOST < length all))

-- these are the names of messages, as far as a listing takes them
pub record AreNames (messages : List Message) (names : DayNames) : Type 0 where
  pub symbols : AreAllOrTooMany names.symbols.keys (symbols_of messages)
  pub participants : names.participants.keys ≡ participants_of messages

-- a listing has the names of all messages
pub record ListsAll (listing : Names) (messages : List Message) : Type 0 where
  pub symbols : list_all (λ m. lists_symbol listing (symbol_of m)) messages ≡ true
  pub participants : list_all (λ m. lists_participant listing (header_of m).participant) messages ≡ true

-- an empty tape of a listing
abbrev pub tape_by_names : Matrix → Names → TapeState
tape_by_names matrix listing = empty_tape listing TAPE_MOST matrix

-- a day by this matrix has answered these messages, as a tape of each listing with their names does
pub record HasEnded (matrix : Matrix) (messages : List Message) (day : EndDay) : Type 0 where
  pub names : AreNames messages day.names
  pub tape : (listing : Names) → ListsAll listing messages → KeepsEnd (fold tape_after (tape_by_names matrix listing) messages) day.tape
  pub refusals : (listing : Names) → ListsAll listing messages → AreRefusals (answers (tape_by_names matrix listing) messages) day.refusals
  pub stale : (listing : Names) → ListsAll listing messages → day.refusals.stale ≡ first_stale (tape_by_names matrix listing) messages
  pub row : day.row ≡ length messages + FIRST_ROW

-- it has answered some messages
abbrev pub IsEnding : EndDay → Type 0
IsEnding day = (matrix : Matrix) × (messages : List Message) × HasEnded matrix messages day

-- it answered these messages more
abbrev pub EndsMore : EndDay → EndDay → List Message → Type 0
EndsMore old new messages = (matrix : Matrix) (before : List Message) → HasEnded matrix before old → HasEnded matrix (before ++ messages) new

-- ## With the table's reader

-- these messages were read, and answered
abbrev pub ReadsMore : {R : Type 0} → (R → Option (List ℕ)) → RowReader R → RowReader R → EndDay → EndDay → Type 0
ReadsMore remaining rows left old new = (messages : List Message) × TakesMore remaining rows left messages × EndsMore old new messages

-- all messages that were left were read, and answered
abbrev pub ReadsAll : {R : Type 0} → (R → Option (List ℕ)) → RowReader R → EndDay → EndDay → Type 0
ReadsAll remaining rows old new = (messages : List Message) × TakesRest remaining rows messages × EndsMore old new messages

-- the table has this end
abbrev pub EndsWith : {R : Type 0} → (R → Option (List ℕ)) → RowReader R → TableEnd → Type 0
EndsWith remaining rows end = (input : List ℕ) (before : List Message) → HasTaken remaining rows input before → IsTableEnd input end

-- the day of a table, if its text is known
abbrev pub ReadsDay : Option (List ℕ) → Matrix → EndDay → Type 0
ReadsDay known matrix day = (messages : List Message) × IfSome known (λ input. IsTable input messages) × HasEnded matrix messages day

-- why there is none
abbrev pub StopsDay : Option (List ℕ) → TableEnd → Type 0
StopsDay known end = IfSome known (λ input. IsTableEnd input end)
