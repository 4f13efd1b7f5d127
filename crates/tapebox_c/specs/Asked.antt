-- Defines the results of the calls that read a request or an answer.
use Rattle.std.specs.Prelude.{◌≡◌, ◌==◌, ◌<◌, ◌≤◌, ℕ, List, length, take, drop, slice_get, Option, None, Some, Result, Ok, Err, if◌then◌else◌}
use Rattle.std.specs.Global.{Vec}
use Rattle.tape_frames.specs.Limits.{REQUEST_LENGTH}
use Rattle.tape_frames.specs.Requests.{request_of}
use Rattle.tape_frames.specs.declared.request.Request.{Request}
use Rattle.tape_frames.specs.declared.request_fault.RequestFault.{RequestFault}
use Rattle.retransmit.specs.Asking.{answer_at, texts_of}
use Rattle.retransmit.specs.Faults.{ask_fault_code, refusal_code}
use Rattle.retransmit.specs.declared.ask_fault.AskFault.{AskFault}
use Rattle.retransmit.specs.declared.ask_fault.AskFault.TheVariants as ask
use Rattle.tapebox_c.specs.Faults.{fault_code}
use Rattle.tapebox_c.specs.Sending.{TellsText}
use Rattle.tapebox_c.specs.declared.fault.CallFault.{CallFault}
use Rattle.tapebox_c.specs.declared.fault.CallFault.TheVariants.{NoRequest, BadRequest}
use Rattle.tapebox_c.specs.declared.rows.ReplyRow.{ReplyRow}
use Rattle.tapebox_c.specs.declared.rows.RequestFieldsRow.{RequestFieldsRow}

-- ---- requests

-- a request that was read, or its fault
abbrev pub request_or : Result Request RequestFault → Result Request CallFault
request_or (Ok r) = Ok r
request_or (Err fault) = Err (BadRequest fault)

-- the request that the bytes are: 107 if there are not as many as one has
abbrev pub request_due : List ℕ → Result Request CallFault
request_due bytes = if length bytes == REQUEST_LENGTH then request_or (request_of bytes) else Err NoRequest

-- the result of reading a request
abbrev pub ReadsRequest : Result Request CallFault → ℕ → RequestFieldsRow → RequestFieldsRow → Type 0
ReadsRequest (Ok r) code old new = (code ≡ 0) × (new ≡ record { session = r.session; from = r.from; count = r.count })
ReadsRequest (Err fault) code old new = (code ≡ fault_code fault) × (new ≡ old)

-- ---- answers

-- this many of the bytes are needed: fewer end too early
abbrev pub NeedsAll : List ℕ → ℕ → Type 0
NeedsAll bytes taken = (taken ≤ length bytes) × ((len : ℕ) → len < taken → answer_at (take len bytes) ≡ Err ask.ReadFault)

-- what is read at the front of bytes, and how many of them it has: the packets of an answer; that it goes on after the bytes;
-- that it is no answer; that the request was refused; or that memory ran out
abbrev pub AnswerRead : List ℕ → Result (Vec (Vec ℕ)) AskFault → ℕ → Type 0
AnswerRead bytes (Ok packets) taken = (answer_at bytes ≡ Ok (texts_of packets, drop taken bytes)) × NeedsAll bytes taken
AnswerRead bytes (Err ask.ReadFault) taken = (answer_at bytes ≡ Err ask.ReadFault) × (taken ≡ length bytes)
AnswerRead bytes (Err ask.WriteFault) taken = ⊥
AnswerRead bytes (Err ask.BadAnswer) taken = (answer_at bytes ≡ Err ask.BadAnswer) × NeedsAll bytes taken
AnswerRead bytes (Err (ask.Refused refusal)) taken = (answer_at bytes ≡ Err (ask.Refused refusal)) × NeedsAll bytes taken
AnswerRead bytes (Err ask.OutOfMemory) taken = Unit {0}

-- the row of a fault, which stays as it was if memory ran out
abbrev pub fault_row : AskFault → ℕ → ReplyRow → ReplyRow
fault_row ask.OutOfMemory taken row = row
fault_row (ask.Refused refusal) taken row = record { packets = 0; taken = taken; refusal = refusal_code refusal }
fault_row fault taken row = record { packets = 0; taken = taken; refusal = 0 }

-- the result of reading an answer, as a number and a row
abbrev pub TellsReply : Result (Vec (Vec ℕ)) AskFault → ℕ → ℕ → ReplyRow → ReplyRow → Type 0
TellsReply (Ok packets) taken code old new = (code ≡ 0) × (new ≡ record { packets = length packets.items; taken = taken; refusal = 0 })
TellsReply (Err fault) taken code old new = (code ≡ ask_fault_code fault) × (new ≡ fault_row fault taken old)

-- the result of reading the answer at the front of bytes
abbrev pub ReadsAnswer : List ℕ → ℕ → ReplyRow → ReplyRow → Type 0
ReadsAnswer bytes code old new = (told : Result (Vec (Vec ℕ)) AskFault) × (taken : ℕ) × AnswerRead bytes told taken × TellsReply told taken code old new

-- a packet that was looked for, or that there is none
abbrev pub TextTold : Option (Vec ℕ) → ℕ → List ℕ → List ℕ → ℕ → ℕ → Type 0
TextTold None code old new len len' = (code ≡ 105) × (new ≡ old) × (len' ≡ len)
TextTold (Some text) code old new len len' = TellsText text.items code old new len len'

-- the packet at a place of what was read of an answer: 105 if it has fewer
abbrev pub TellsPacket : Result (Vec (Vec ℕ)) AskFault → ℕ → ℕ → List ℕ → List ℕ → ℕ → ℕ → Type 0
TellsPacket (Ok packets) place code old new len len' = TextTold (slice_get packets.items place) code old new len len'
TellsPacket (Err fault) place code old new len len' = (code ≡ ask_fault_code fault) × (new ≡ old) × (len' ≡ len)

-- the packet at a place of the answer at the front of bytes
abbrev pub GivesPacket : List ℕ → ℕ → ℕ → List ℕ → List ℕ → ℕ → ℕ → Type 0
GivesPacket bytes place code old new len len' =
    (told : Result (Vec (Vec ℕ)) AskFault) × (taken : ℕ) × AnswerRead bytes told taken × TellsPacket told place code old new len len'
