-- Defines what a line does with its frames, and how it ends.
use Rattle.std.specs.Prelude.{◌≡◌, ◌≢◌, ◌+◌, ◌<◌, ◌≤◌, ◌⊎◌, ℕ, List, [], ◌∷◌, length, Option, Some, None, Result, Ok, Err, if◌then◌else◌}
use Rattle.std.specs.List.{cons_option}
use Rattle.std.specs.List.{concat}
use Rattle.std.specs.Io.KnownBytes.{Consumes}
use Rattle.line_ledger.specs.Days.{Terms}
use Rattle.line_ledger.specs.Admissions.{Tells, TellsWhy}
use Rattle.line_ledger.specs.Seats.{SeatState}
use Rattle.line_ledger.specs.declared.line_refusal.LineRefusal.{LineRefusal}
use Rattle.line_ledger.specs.declared.line_refusal.LineRefusal.TheVariants as line
use Rattle.reports.specs.Messages.{header_of}
use Rattle.reports.specs.Reading.{message_at}
use Rattle.reports.specs.Spelling.{Spells}
use Rattle.reports.specs.declared.fault.MessageFault.{MessageFault}
use Rattle.reports.specs.declared.message.Message.{Message}
use Rattle.tape_core.specs.Refusals.{is_out_of_memory}
use Rattle.tape_core.specs.declared.refusal.Refusal.{Refusal}
use Rattle.tape_core.specs.declared.refusal.Refusal.TheVariants as tape
use Rattle.participant_lines.specs.Frames.{EndsInput, IsFrame}
use Rattle.participant_lines.specs.Tallies.{AreCounted}
use Rattle.participant_lines.specs.declared.tally.RefusedFrame.{RefusedFrame}
use Rattle.participant_lines.specs.declared.tally.Reason.TheVariants.{Unspelled, Refused as ByTape}
use Rattle.participant_lines.specs.declared.tally.Tally.{Tally}
use Rattle.participant_lines.specs.declared.line_end.LineOutcome.{LineOutcome}
use Rattle.participant_lines.specs.declared.line_end.LineOutcome.TheVariants.{Clean, Truncated, Oversize, ReadFault, TooMany, OutOfMemory, Behind}

-- how many frames a line does at most
abbrev pub FRAMES_MOST : ℕ
FRAMES_MOST = 33554432

-- what a tape's refusal of the message of this number does to its line: `OutOfMemory` ends it, and any other is counted
abbrev pub refusal_effect : ℕ → Refusal → Result (Option RefusedFrame) LineOutcome
refusal_effect number refusal =
    if is_out_of_memory refusal then Err OutOfMemory else Ok (Some (record { reason = ByTape refusal; number = number }))

-- what an answer to the message of this number does to its line: the refusal to count, none on an admission, or the end of the
-- line
abbrev pub effect_of : ℕ → Result ℕ LineRefusal → Result (Option RefusedFrame) LineOutcome
effect_of number (Ok tape_number) = Ok None
effect_of number (Err line.Behind) = Err Behind
effect_of number (Err (line.Refused refusal)) = refusal_effect number refusal

-- what a seat's holder learns of an answer
abbrev pub IsAnswered : Terms → SeatState → Message → Result ℕ LineRefusal → SeatState → Type 0
IsAnswered terms s m (Ok number) s' = Tells s m number s'
IsAnswered terms s m (Err why) s' = TellsWhy terms s m why s'

-- a message was answered so that its line goes on, and its refusal is counted, if it was refused
abbrev pub TakesMessage : Terms → SeatState → Message → Option RefusedFrame → SeatState → Type 0
TakesMessage terms s m mark s' =
    (answer : Result ℕ LineRefusal) × IsAnswered terms s m answer s' × (effect_of (header_of m).number answer ≡ Ok mark)

-- a frame was done: it spells no message, which is counted as refused, or its message was taken
abbrev pub IsDone : Terms → SeatState → List ℕ → Option RefusedFrame → SeatState → Type 0
IsDone terms s frame mark s' =
    ((fault : MessageFault) × (message_at frame ≡ Err fault) × (s' ≡ s) × (mark ≡ Some (record { reason = Unspelled fault; number = 0 })))
    ⊎ ((m : Message) × Spells frame m × TakesMessage terms s m mark s')

-- these frames were done one after the other, and these of them were refused
unfoldable pub AreDone : Terms → SeatState → List (List ℕ) → List RefusedFrame → SeatState → Type 0
AreDone terms s [] marks s' = (s' ≡ s) × (marks ≡ [])
AreDone terms s (frame ∷ frames) marks s' =
    (between : SeatState) × (mark : Option RefusedFrame) × (others : List RefusedFrame) × IsFrame frame × IsDone terms s frame mark between
    × AreDone terms between frames others s' × (marks ≡ cons_option mark others)

-- so many frames were read from what a reader had, which left the rest, and were done: each was told of or is among those that
-- were refused, and the seat is the same participant's
pub record Does (terms : Terms) (s : SeatState) (had rest : Option (List ℕ)) (many : ℕ) (marks : List RefusedFrame) (s' : SeatState) : Type 0 where
  pub frames : List (List ℕ)
  pub number : length frames ≡ many
  pub read : Consumes had rest (concat frames)
  pub done : AreDone terms s frames marks s'
  pub sum : length s'.told + length marks ≡ length s.told + many
  pub few : length marks ≤ many
  pub same : s'.who ≡ s.who

-- the refusals at which a line ends, by its end
abbrev pub StopsAt : LineOutcome → Terms → SeatState → Message → Type 0
StopsAt Clean terms s m = ⊥
StopsAt Truncated terms s m = ⊥
StopsAt Oversize terms s m = ⊥
StopsAt ReadFault terms s m = ⊥
StopsAt TooMany terms s m = ⊥
StopsAt OutOfMemory terms s m = TellsWhy terms s m (line.Refused tape.OutOfMemory) s
StopsAt Behind terms s m = TellsWhy terms s m line.Behind s

-- the next frame was read, and the line ended at its message
abbrev pub IsStopped : LineOutcome → Terms → SeatState → Option (List ℕ) → Option (List ℕ) → Type 0
IsStopped ended terms s had rest =
    (frame : List ℕ) × (m : Message) × Consumes had rest frame × IsFrame frame × Spells frame m × StopsAt ended terms s m

-- what was read after the frames that were done, by the way the line ended
abbrev pub EndsAfter : LineOutcome → Terms → SeatState → Option (List ℕ) → Option (List ℕ) → Type 0
EndsAfter Clean terms s had rest = EndsInput Clean had rest
EndsAfter Truncated terms s had rest = EndsInput Truncated had rest
EndsAfter Oversize terms s had rest = EndsInput Oversize had rest
EndsAfter ReadFault terms s had rest = EndsInput ReadFault had rest
EndsAfter TooMany terms s had rest = Consumes had rest []
EndsAfter OutOfMemory terms s had rest = IsStopped OutOfMemory terms s had rest
EndsAfter Behind terms s had rest = IsStopped Behind terms s had rest

-- a line's run, in which these frames were refused: frames were done, `FRAMES_MOST` only with `TooMany`, and then it ended so
pub record RunsSo (terms : Terms) (s : SeatState) (had rest : Option (List ℕ)) (marks : List RefusedFrame) (ended : LineOutcome) (s' : SeatState) : Type 0 where
  pub many : ℕ
  pub left : Option (List ℕ)
  pub does : Does terms s had left many marks s'
  pub after : EndsAfter ended terms s' left rest
  pub most : ended ≡ TooMany → many ≡ FRAMES_MOST
  pub fewer : ended ≢ TooMany → many < FRAMES_MOST

-- a line's run, in which so many frames were refused
abbrev pub Runs : Terms → SeatState → Option (List ℕ) → Option (List ℕ) → ℕ → LineOutcome → SeatState → Type 0
Runs terms s had rest refused ended s' = (marks : List RefusedFrame) × (refused ≡ length marks) × RunsSo terms s had rest marks ended s'

-- a line's run with the tally of its refused frames
abbrev pub RunsTallied : Terms → SeatState → Option (List ℕ) → Option (List ℕ) → Tally → LineOutcome → SeatState → Type 0
RunsTallied terms s had rest tally ended s' = (marks : List RefusedFrame) × AreCounted marks tally × RunsSo terms s had rest marks ended s'
