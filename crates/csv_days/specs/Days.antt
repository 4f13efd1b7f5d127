-- The day of a table: its names, its tape and its report.
use Rattle.std.specs.Prelude.{◌≡◌, ◌+◌, ◌++◌, ◌⊎◌, ℕ, Bool, List, [], length, map, fold, nat_eq, None, unwrap_or}
use Rattle.std.specs.List.{list_all}
use Rattle.indexmap.specs.IndexSet.{insert_all}
use Rattle.tape_types.specs.Names.{Names, names_fault, symbol_eq}
use Rattle.tape_types.specs.Ranges.{TAPE_MOST}
use Rattle.tape_types.specs.declared.listing_fault.ListingFault.{ListingFault}
use Rattle.tape_types.specs.declared.listing_fault.ListingFault.TheVariants as listing
use Rattle.sale_matrix.specs.declared.matrix.Matrix.{Matrix}
use Rattle.reports.specs.Messages.{header_of}
use Rattle.reports.specs.declared.message.Message.{Message}
use Rattle.tape_core.specs.Tape.{TapeState, empty_tape, lists_symbol}
use Rattle.day_report.specs.ReportText.{report_text}
use Rattle.day_report.specs.Rows.{report_rows}
use Rattle.tape_core.specs.Answers.{answers, tape_after}
use Rattle.csv_days.specs.Refusals.{AreRefusals}
use Rattle.csv_days.specs.StaleRows.{first_stale}
use Rattle.csv_messages.specs.Tables.{FIRST_ROW}
use Rattle.csv_days.specs.declared.day.TableDay.{TableDay}

-- the symbol of a message
abbrev pub symbol_of : Message → List ℕ
symbol_of m = (header_of m).symbol

-- the symbols of messages, each once, in the order in which they first appear
abbrev pub symbols_of : List Message → List (List ℕ)
symbols_of messages = insert_all symbol_eq [] (map symbol_of messages)

-- the participants of messages, each once, in the order in which they first appear
abbrev pub participants_of : List Message → List ℕ
participants_of messages = insert_all nat_eq [] (map (λ m. (header_of m).participant) messages)

-- the listing of messages
abbrev pub names_of : List Message → Names
names_of messages = record { symbols = symbols_of messages; participants = participants_of messages }

-- the names of messages make a listing
abbrev pub MakeListing : List Message → Type 0
MakeListing messages = names_fault (symbols_of messages) (participants_of messages) ≡ None

-- the names of messages make no listing, or memory ran out
abbrev pub IsListingFault : List Message → ListingFault → Type 0
IsListingFault messages fault =
    (fault ≡ listing.OutOfMemory) ⊎ (fault ≡ unwrap_or (names_fault (symbols_of messages) (participants_of messages)) listing.OutOfMemory)

-- the tape of messages before the first
abbrev pub first_tape : Matrix → List Message → TapeState
first_tape matrix messages = empty_tape (names_of messages) TAPE_MOST matrix

-- whether a tape lists the symbols of all these messages
abbrev pub lists_all : TapeState → List Message → Bool
lists_all t messages = list_all (λ m. lists_symbol t.listing (symbol_of m)) messages

-- the tape of messages
abbrev pub tape_of : Matrix → List Message → TapeState
tape_of matrix messages = fold tape_after (first_tape matrix messages) messages

-- the text of the report of messages
abbrev pub day_text : Matrix → List Message → List ℕ
day_text matrix messages = report_text (report_rows (tape_of matrix messages))

-- a day began with this tape, and has answered these messages
pub record HasAnswered (t : TapeState) (messages : List Message) (day : TableDay) : Type 0 where
  pub tape : day.tape ≡ fold tape_after t messages
  pub refusals : AreRefusals (answers t messages) day.refusals
  pub stale : day.refusals.stale ≡ first_stale t messages
  pub row : day.row ≡ length messages + FIRST_ROW

-- a day answered these messages more
abbrev pub AnswersMore : TableDay → TableDay → List Message → Type 0
AnswersMore old new messages =
    (t : TapeState) (before : List Message) → HasAnswered t before old → HasAnswered t (before ++ messages) new
