-- Defines the reasons for refused frames, and how these are counted by reason.
use Rattle.std.specs.Prelude.{◌≡◌, ◌+◌, ◌-◌, ◌==◌, ℕ, Bool, List, [], ◌∷◌, Option, Some, None, find, length}
use Rattle.std.specs.List.{count_by, slice_index_or}
use Rattle.std.specs.Option.{option_map}
use Rattle.reports.specs.Faults.{message_fault_code, message_fault_name}
use Rattle.reports.specs.declared.fault.MessageFault.TheVariants as fault
use Rattle.tape_core.specs.Refusals.{refusal_code, refusal_name}
use Rattle.tape_core.specs.declared.refusal.Refusal.TheVariants as tape
use Rattle.participant_lines.specs.declared.tally.RefusedFrame.{RefusedFrame}
use Rattle.participant_lines.specs.declared.tally.Reason.{Reason}
use Rattle.participant_lines.specs.declared.tally.Reason.TheVariants.{Unspelled, Refused as ByTape}
use Rattle.participant_lines.specs.declared.tally.RefusedFrames.{RefusedFrames}
use Rattle.participant_lines.specs.declared.tally.Tally.{Tally}

-- the number of a reason: that of the message's fault, or of the tape's refusal
abbrev pub reason_code : Reason → ℕ
reason_code (Unspelled fault) = message_fault_code fault
reason_code (ByTape refusal) = refusal_code refusal

-- the name of a reason, as it is printed
abbrev pub reason_name : Reason → List ℕ
reason_name (Unspelled fault) = message_fault_name fault
reason_name (ByTape refusal) = refusal_name refusal

-- every reason, by rising number
abbrev pub all_reasons : List Reason
all_reasons =
    Unspelled fault.Oversize ∷ Unspelled fault.Short ∷ Unspelled fault.BadKind ∷ Unspelled fault.BadLength ∷ Unspelled fault.BadParticipant
    ∷ Unspelled fault.BadNumber ∷ Unspelled fault.BadSymbol ∷ Unspelled fault.BadTarget ∷ Unspelled fault.BadPrice ∷ Unspelled fault.BadSize
    ∷ Unspelled fault.BadCondition ∷ ByTape tape.Closed ∷ ByTape tape.Full ∷ ByTape tape.WrongLine ∷ ByTape tape.UnknownParticipant
    ∷ ByTape tape.Stale ∷ ByTape tape.UnknownSymbol ∷ ByTape tape.NoSuchReport ∷ ByTape tape.OtherSymbol ∷ ByTape tape.Cancelled
    ∷ ByTape tape.OutOfMemory ∷ ByTape tape.WrongNumber ∷ ByTape tape.Standing ∷ ByTape tape.NotInMatrix ∷ []

-- whether a frame was refused for this reason
abbrev pub is_for : Reason → RefusedFrame → Bool
is_for reason mark = reason_code mark.reason == reason_code reason

-- the refused frames of this reason, if any: how many, and the message number of the first
unfoldable pub refused_frames : Reason → List RefusedFrame → Option RefusedFrames
refused_frames reason marks =
    option_map (λ mark. record { count = count_by (is_for reason) marks; first = mark.number }) (find (is_for reason) marks)

-- what was counted for this reason
abbrev pub refused_for : Tally → Reason → Option RefusedFrames
refused_for tally reason = slice_index_or tally.reasons (reason_code reason - 11) None

-- this is the tally of these refused frames: how many they are, and for each reason how many and the first
pub record AreCounted (marks : List RefusedFrame) (tally : Tally) : Type 0 where
  pub all : tally.refused ≡ length marks
  pub each : (reason : Reason) → refused_for tally reason ≡ refused_frames reason marks

-- the refused frames of a reason, with one more
abbrev pub one_more : Option RefusedFrames → ℕ → RefusedFrames
one_more None number = record { count = 1; first = number }
one_more (Some refused) number = record { count = refused.count + 1; first = refused.first }
