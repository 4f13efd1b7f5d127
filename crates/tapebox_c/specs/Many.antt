-- Defines the results of the call that admits messages one after the other.
use Rattle.std.specs.Prelude.{◌≡◌, ◌≤◌, ◌+◌, ◌==◌, ℕ, Bool, true, false, List, [], ◌∷◌, length, take, drop, Option, None, Some, Result, Ok, Err}
use Rattle.reports.specs.Reading.{message_at}
use Rattle.reports.specs.declared.fault.MessageFault.{MessageFault}
use Rattle.reports.specs.declared.message.Message.{Message}
use Rattle.tape_core.specs.Tape.{TapeState, Answers}
use Rattle.tape_core.specs.declared.entry.Entry.{Entry}
use Rattle.tape_core.specs.declared.refusal.Refusal.{Refusal}
use Rattle.tapebox_c.specs.Faults.{fault_code}
use Rattle.tapebox_c.specs.declared.fault.CallFault.TheVariants.{NoMessage, Refused}
use Rattle.tapebox_c.specs.declared.held.Held.{Held}
use Rattle.tapebox_c.specs.declared.held.Held.TheVariants.{Tape}
use Rattle.tapebox_c.specs.declared.rows.ManyRow.{ManyRow}

-- the number of an answer: 0 for an entry
abbrev pub number_of : Result Entry Refusal → ℕ
number_of (Ok e) = 0
number_of (Err refusal) = fault_code (Refused refusal)

-- a tape answers the message at a place of bytes with this number, and the next place is after it
pub record Turn (bytes : List ℕ) (old : TapeState) (at number : ℕ) (new : TapeState) (next : ℕ) : Type 0 where
  pub message : Message
  pub taken : ℕ
  pub answer : Result Entry Refusal
  pub read : message_at (drop at bytes) ≡ Ok (message, taken)
  pub behind : next ≡ at + taken
  pub answered : Answers old message answer new
  pub told : number ≡ number_of answer

-- a turn is made, or the bytes at its place begin with no message
abbrev pub TurnAt : List ℕ → TapeState → ℕ → Result (ℕ × ℕ) MessageFault → TapeState → Type 0
TurnAt bytes old at (Ok told) new = Turn bytes old at told.0 new told.1 × (told.1 ≤ length bytes)
TurnAt bytes old at (Err fault) new = (message_at (drop at bytes) ≡ Err fault) × (new ≡ old)

-- the messages of bytes, from one place to another, are answered in turn with these numbers
abbrev pub Turns : List ℕ → TapeState → ℕ → List ℕ → TapeState → ℕ → Type 0
Turns bytes old at [] new end = (new ≡ old) × (end ≡ at)
Turns bytes old at (number ∷ numbers) new end = (mid : TapeState) × (next : ℕ) × Turn bytes old at number mid next × Turns bytes mid next numbers new end

-- why the call stops, by whether the bytes have ended, whether there is room, and what is read there
abbrev pub IsStop : Bool → Bool → Result (Message × ℕ) MessageFault → ℕ → Type 0
IsStop true full read code = code ≡ 0
IsStop false true read code = code ≡ 108
IsStop false false (Err fault) code = code ≡ fault_code (NoMessage fault)
IsStop false false (Ok read) code = ⊥

-- the messages at the front of bytes are answered with the numbers at the front of a row, whose rest stays
pub record AdmitsMany (bytes : List ℕ) (old : TapeState) (code : ℕ) (row row' : List ℕ) (done : ManyRow) (new : TapeState) : Type 0 where
  pub within : done.answered ≤ length row
  pub behind : drop done.answered row' ≡ drop done.answered row
  pub turns : Turns bytes old 0 (take done.answered row') new done.taken
  pub stop : IsStop (length bytes == done.taken) (length row == done.answered) (message_at (drop done.taken bytes)) code

-- what is held admits messages, if it is a tape
abbrev pub HeldAdmits : Held → List ℕ → List ℕ → List ℕ → Option (ManyRow × ℕ) → Held → Type 0
HeldAdmits (Tape t) bytes row row' (Some told) (Tape u) = AdmitsMany bytes t told.1 row row' told.0 u
HeldAdmits (Tape t) bytes row row' told new = ⊥
HeldAdmits held bytes row row' told new = (told ≡ None) × (row' ≡ row) × (new ≡ held)

-- what was done, with the code, or 101 without a tape
abbrev pub ManyTold : Option (ManyRow × ℕ) → ℕ → ManyRow → ManyRow → Type 0
ManyTold None code done done' = (code ≡ 101) × (done' ≡ done)
ManyTold (Some told) code done done' = (code ≡ told.1) × (done' ≡ told.0)

-- what a handle holds, if anything, admits the messages of bytes
abbrev pub AdmitsManyIn : Option Held → List ℕ → ℕ → List ℕ → List ℕ → ManyRow → ManyRow → Option Held → Type 0
AdmitsManyIn None bytes code row row' done done' held' = (code ≡ 101) × (row' ≡ row) × (done' ≡ done) × (held' ≡ None)
AdmitsManyIn (Some held) bytes code row row' done done' None = ⊥
AdmitsManyIn (Some held) bytes code row row' done done' (Some held') = (told : Option (ManyRow × ℕ)) × HeldAdmits held bytes row row' told held' × ManyTold told code done done'
