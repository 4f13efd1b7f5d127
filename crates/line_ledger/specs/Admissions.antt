-- What an admission by a seat does, and what it tells the seat's holder alone.
use Rattle.std.specs.Prelude.{◌≡◌, ◌≢◌, ℕ, ◌+◌, ◌<◌, ◌≤◌, ◌==◌, false, not, if◌then◌else◌, length, Option, Some, None, unwrap_or, ◌↔◌}
use Rattle.std.specs.Option.{option_map}
use Rattle.reports.specs.declared.message.Message.{Message}
use Rattle.reports.specs.Messages.{header_of}
use Rattle.tape_core.specs.declared.refusal.Refusal.TheVariants.{Closed, WrongLine, UnknownParticipant, Stale, UnknownSymbol, OutOfMemory, NotInMatrix}
use Rattle.tape_core.specs.Tape.{TapeState, refusal, with_message, lists_symbol, is_in_matrix}
use Rattle.line_ledger.specs.declared.line_refusal.LineRefusal.{LineRefusal}
use Rattle.line_ledger.specs.declared.line_refusal.LineRefusal.TheVariants.{Behind, Refused}
use Rattle.line_ledger.specs.Days.{Terms}
use Rattle.line_ledger.specs.Seats.{SeatState, agrees, last_told, with_told}

-- why a message is not admitted by this seat, apart from running out of memory: the first case that holds, or none
abbrev pub line_refusal : TapeState → SeatState → Message → Option LineRefusal
line_refusal t s m =
    if not ((header_of m).participant == s.who) then Some (Refused WrongLine)
    else if not (agrees t s) then Some Behind
    else option_map Refused (refusal t m)

-- the message was admitted under the next number and its line was told so
pub record Admits (t : TapeState) (s : SeatState) (m : Message) (number : ℕ) (t' : TapeState) (s' : SeatState) : Type 0 where
  pub may : line_refusal t s m ≡ None
  pub number_is : number ≡ length t.entries + 1
  pub tape : t' ≡ with_message t m
  pub told : s' ≡ with_told s number m

-- the tape and the seat are unchanged, and the reason is the first refusal, or out of memory if there is none
pub record Refuses (t : TapeState) (s : SeatState) (m : Message) (why : LineRefusal) (t' : TapeState) (s' : SeatState) : Type 0 where
  pub why_is : why ≡ unwrap_or (line_refusal t s m) (Refused OutOfMemory)
  pub tape : t' ≡ t
  pub seat : s' ≡ s

-- what the seat's holder learns of an admission
pub record Tells (s : SeatState) (m : Message) (number : ℕ) (s' : SeatState) : Type 0 where
  pub told : s' ≡ with_told s number m
  pub own_line : (header_of m).participant ≡ s.who
  pub above : last_told 0 s.told < (header_of m).number

-- what the seat's holder learns of a refusal: the tape is open, and the participant is listed
pub record TellsWhy (terms : Terms) (s : SeatState) (m : Message) (why : LineRefusal) (s' : SeatState) : Type 0 where
  pub seat : s' ≡ s
  pub wrong_line : (why ≡ Refused WrongLine) ↔ ((header_of m).participant ≢ s.who)
  pub stale : why ≡ Refused Stale → (header_of m).number ≤ last_told 0 s.told
  pub unlisted : why ≡ Refused UnknownSymbol → lists_symbol terms.listing (header_of m).symbol ≡ false
  pub not_within : why ≡ Refused NotInMatrix → is_in_matrix terms.matrix m ≡ false
  pub never_closed : why ≢ Refused Closed
  pub never_unknown : why ≢ Refused UnknownParticipant
