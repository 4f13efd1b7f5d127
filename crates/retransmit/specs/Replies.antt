-- The result that the asker reads from an answer.
use Rattle.std.specs.Prelude.{ℕ, List, ◌++◌, Result, Ok, Err}
use Rattle.reports.specs.Fields.{Reads}
use Rattle.tape_core.specs.declared.entry.Entry.{Entry}
use Rattle.tape_frames.specs.declared.request.Request.{Request}
use Rattle.tape_frames.specs.declared.request_fault.RequestFault.{RequestFault}
use Rattle.tape_frames.specs.declared.version.Version.{Version}
use Rattle.tape_frames.specs.Requests.{request_of}
use Rattle.retransmit.specs.Answers.{answer_of, answer_text, range_packets}
use Rattle.retransmit.specs.Asking.{answer_at}
use Rattle.retransmit.specs.declared.ask_fault.AskFault.{AskFault}
use Rattle.retransmit.specs.declared.ask_fault.AskFault.TheVariants as fault
use Rattle.retransmit.specs.declared.reply.Answer.{Answer}
use Rattle.retransmit.specs.declared.reply.Answer.TheVariants.{Refused, Range}
use Rattle.retransmit.specs.declared.refusal.RequestRefusal.TheVariants.{BadSpan}

-- the result read from an answer: its packets' bytes, or the refusal
abbrev pub given_packets : List Entry → ℕ → Version → Answer → Result (List (List ℕ)) AskFault
given_packets es session version (Refused refusal) = Err (fault.Refused refusal)
given_packets es session version (Range from to) = Ok (range_packets es session version from to)

-- the result read from the answer to the request or the fault that was read
abbrev pub reply_packets : List Entry → ℕ → Version → Result Request RequestFault → Result (List (List ℕ)) AskFault
reply_packets es session version (Ok r) = given_packets es session version (answer_of es session version r)
reply_packets es session version (Err bad) = Err (fault.Refused BadSpan)

-- the result read from the answer to the request that the bytes spell
abbrev pub answer_packets : List Entry → ℕ → Version → List ℕ → Result (List (List ℕ)) AskFault
answer_packets es session version bytes = reply_packets es session version (request_of bytes)

-- an answer's bytes, whatever follows them, are read as that answer
abbrev pub IsReadAgain : List Entry → ℕ → Version → List ℕ → Type 0
IsReadAgain es session version bytes = (rest : List ℕ) → Reads (answer_packets es session version bytes) rest (answer_at (answer_text es session version bytes ++ rest))
