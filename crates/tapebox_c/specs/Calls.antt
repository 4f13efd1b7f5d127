-- Defines the results of the calls from another language.
use Rattle.std.specs.Prelude.{◌≡◌, ◌==◌, ◌-◌, ℕ, true, List, length, slice_get, Option, None, Some, Result, Ok, Err, option_and_then, unwrap_or, if◌then◌else◌}
use Rattle.tape_types.specs.Header.{is_capital}
use Rattle.reports.specs.Reading.{message_at}
use Rattle.reports.specs.declared.fault.MessageFault.{MessageFault}
use Rattle.reports.specs.declared.message.Message.{Message}
use Rattle.tape_core.specs.Tape.{TapeState, Answers, refusal}
use Rattle.tape_core.specs.declared.entry.Entry.{Entry}
use Rattle.tape_core.specs.declared.refusal.Refusal.TheVariants.{OutOfMemory}
use Rattle.tapebox_c.specs.declared.fault.CallFault.{CallFault}
use Rattle.tapebox_c.specs.declared.fault.CallFault.TheVariants.{NoTape, NoMessage, ExtraBytes, Refused}
use Rattle.tapebox_c.specs.declared.held.Held.{Held}
use Rattle.tapebox_c.specs.declared.held.Held.TheVariants.{Tape, Subscriber, Table, Words}

-- the tape that is held, or the subscriber's own, if one of them is held
abbrev pub own_tape : Held → Option TapeState
own_tape (Tape t) = Some t
own_tape (Subscriber s) = Some s.tape
own_tape (Table table) = None
own_tape (Words words) = None

-- the tape of a handle, or its subscriber's own
abbrev pub held_tape : Option Held → Option TapeState
held_tape held = option_and_then own_tape held

-- the message that was read, if it took all the bytes
abbrev pub message_of_all : ℕ → Result (Message × ℕ) MessageFault → Result Message CallFault
message_of_all len (Err fault) = Err (NoMessage fault)
message_of_all len (Ok read) = if read.1 == len then Ok read.0 else Err ExtraBytes

-- the message that all the bytes are, or what is wrong with them
abbrev pub whole_message : List ℕ → Result Message CallFault
whole_message bytes = message_of_all (length bytes) (message_at bytes)

-- a tape answers a message: it is admitted, or the result is the fault of its bytes, the tape's first refusal, or out of
-- memory, and nothing changes
abbrev pub Takes : TapeState → Result Message CallFault → Result Entry CallFault → TapeState → Type 0
Takes old (Err fault) answer new = (answer ≡ Err fault) × (new ≡ old)
Takes old (Ok m) (Ok e) new = Answers old m (Ok e) new
Takes old (Ok m) (Err fault) new = (fault ≡ Refused (unwrap_or (refusal old m) OutOfMemory)) × (new ≡ old)

-- what a handle holds answers bytes
abbrev pub Admits : Held → List ℕ → Result Entry CallFault → Held → Type 0
Admits (Tape t) bytes answer (Tape u) = Takes t (whole_message bytes) answer u
Admits (Tape t) bytes answer new = ⊥
Admits held bytes answer new = (answer ≡ Err NoTape) × (new ≡ held)

-- a tape is closed
abbrev pub Closes : Held → Result (Unit {0}) CallFault → Held → Type 0
Closes (Tape t) answer new = (answer ≡ Ok tt) × (new ≡ Tape (record t { closed = true }))
Closes held answer new = (answer ≡ Err NoTape) × (new ≡ held)

-- the entry of a number, from 1
abbrev pub entry_numbered : List Entry → ℕ → Option Entry
entry_numbered entries number = if number == 0 then None else slice_get entries (number - 1)

-- a participant by its letter
abbrev pub letter_named : ℕ → Option ℕ
letter_named letter = if is_capital letter then Some letter else None
