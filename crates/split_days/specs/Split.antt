-- A day's messages split by symbols: the messages of some symbols, and the figures on their tape compared with those on the
-- whole.
use Rattle.std.specs.Prelude.{◌≡◌, ℕ, ◌==◌, ◌≤◌, Bool, List, [], ◌∷◌, length, Option, Some, None, filter, fold, is_some, position}
use Rattle.std.specs.Bool.{⊤}
use Rattle.std.specs.List.{find}
use Rattle.std.specs.Option.{option_map}
use Rattle.tape_types.specs.Names.{Names, symbol_eq}
use Rattle.reports.specs.declared.message.Message.{Message}
use Rattle.reports.specs.Messages.{header_of}
use Rattle.scratch_fold.specs.declared.summary.Mark.{Mark}
use Rattle.scratch_fold.specs.declared.summary.Summary.{Summary}
use Rattle.tape_core.specs.Standing.{NumberedMessage, symbol_summary, participant_summary}
use Rattle.tape_core.specs.Tape.{TapeState, refusal, with_message, messages_of}
use Rattle.csv_days.specs.EndDays.{ListsAll}

-- ## A list of messages, and its part

-- no message of a list is refused as they are admitted one after another
abbrev pub AdmitsAll : TapeState → List Message → Type 0
AdmitsAll t [] = ⊤
AdmitsAll t (m ∷ ms) = (refusal t m ≡ None) × AdmitsAll (with_message t m) ms

-- the tape after these messages
abbrev pub tape_after_all : TapeState → List Message → TapeState
tape_after_all t ms = fold with_message t ms

-- whether a symbol is one of these
abbrev pub is_among : List (List ℕ) → List ℕ → Bool
is_among symbols symbol = is_some (position (symbol_eq symbol) symbols)

-- the messages of these symbols, in their order
abbrev pub part_of : List (List ℕ) → List Message → List Message
part_of symbols ms = filter (λ m. is_among symbols (header_of m).symbol) ms

-- a listing has the names of messages, and a limit leaves room for them
pub record HasRoom (listing : Names) (limit : ℕ) (ms : List Message) : Type 0 where
  pub names : ListsAll listing ms
  pub room : length ms ≤ limit

-- ## The figures of two tapes

-- the message at a place, if there is one
abbrev pub message_at : List NumberedMessage → ℕ → Option Message
message_at tape place = option_map (λ n. n.1) (find (λ n. n.0 == place) tape)

-- a place of the whole and a place of the part belong to one message
abbrev pub HaveOneMessage : List NumberedMessage → List NumberedMessage → ℕ → ℕ → Type 0
HaveOneMessage whole part here there = (m : Message) × (message_at whole here ≡ Some m) × (message_at part there ≡ Some m)

-- two marks have the same price and participant, and matching places
pub record IsSameMark (SamePlace : ℕ → ℕ → Type 0) (a b : Mark) : Type 0 where
  pub place : SamePlace a.place b.place
  pub price : a.price ≡ b.price
  pub who : a.who ≡ b.who

-- neither figure is present, or both are, with such marks
abbrev pub IsSameFigure : (ℕ → ℕ → Type 0) → Option Mark → Option Mark → Type 0
IsSameFigure SamePlace None None = ⊤
IsSameFigure SamePlace None (Some b) = ⊥
IsSameFigure SamePlace (Some a) None = ⊥
IsSameFigure SamePlace (Some a) (Some b) = IsSameMark SamePlace a b

-- two summaries have the same figures, except that the places of their marks only match
pub record IsSameSummary (SamePlace : ℕ → ℕ → Type 0) (z y : Summary) : Type 0 where
  pub opening : IsSameFigure SamePlace z.opening y.opening
  pub high : IsSameFigure SamePlace z.high y.high
  pub low : IsSameFigure SamePlace z.low y.low
  pub last : IsSameFigure SamePlace z.last y.last
  pub volume : z.volume ≡ y.volume
  pub trades : z.trades ≡ y.trades

-- a symbol has the same consolidated summary on both tapes, each mark at the place of the same message
abbrev pub HasSameSummary : TapeState → TapeState → List ℕ → Type 0
HasSameSummary whole part symbol =
    IsSameSummary (HaveOneMessage (messages_of whole.entries) (messages_of part.entries))
    (symbol_summary whole.matrix (messages_of whole.entries) symbol) (symbol_summary part.matrix (messages_of part.entries) symbol)

-- and so has each participant in it
abbrev pub HasSameParticipantSummary : TapeState → TapeState → List ℕ → ℕ → Type 0
HasSameParticipantSummary whole part symbol who =
    IsSameSummary (HaveOneMessage (messages_of whole.entries) (messages_of part.entries))
    (participant_summary whole.matrix (messages_of whole.entries) symbol who) (participant_summary part.matrix (messages_of part.entries) symbol who)
