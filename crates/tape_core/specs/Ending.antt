-- Defines what an `EndTape` keeps of the tape that the same messages make, how it answers messages, and the figures at its end.
use Rattle.std.specs.Prelude.{◌≡◌, ℕ, ◌+◌, ◌*◌, ◌≤◌, ◌==◌, true, false, List, [], ◌∷◌, ◌++◌, map, filter, length, position, slice_get, Option, Some, None, IfSome, Result, Ok, Err, unwrap_or}
use Rattle.std.specs.List.{filter_map}
use Rattle.std.specs.Option.{option_map}
use Rattle.std.specs.FinMap as map_by
use Rattle.tape_types.specs.Names.{Names, symbol_eq}
use Rattle.tape_types.specs.Ranges.{IsParticipant, SIZE_MOST, TAPE_MOST, row_index}
use Rattle.sale_matrix.specs.declared.matrix.Matrix.{Matrix}
use Rattle.reports.specs.declared.message.Header.{Header}
use Rattle.reports.specs.declared.message.Message.{Message}
use Rattle.reports.specs.Messages.{header_of, reported_content}
use Rattle.corrections.specs.RegisterState.{last_number_of, targets_of}
use Rattle.corrections.specs.Targets.{Targets, IsStanding, IsCancelled}
use Rattle.scratch_fold.specs.declared.summary.Summary.{Summary}
use Rattle.scratch_fold.specs.Fold.{summary_of}
use Rattle.tape_core.specs.Books.{IsRegister}
use Rattle.tape_core.specs.Routes.{message_change}
use Rattle.tape_core.specs.Standing.{NumberedMessage, StandingReport, last_number, named_report, placed_consolidated, placed_participant, standing_report}
use Rattle.tape_core.specs.Tape.{TapeState, IsTape, lists_participant, lists_symbol, messages_of, refusal, with_message}
use Rattle.tape_core.specs.declared.change.Change.{Change}
use Rattle.tape_core.specs.declared.change.Change.TheVariants.{Enter, Cancel, Correct, Reinstate}
use Rattle.tape_core.specs.declared.end_figures.SymbolFigures.{SymbolFigures}
use Rattle.tape_core.specs.declared.end_route.EndRoute.{EndRoute}
use Rattle.tape_core.specs.declared.end_tape.EndTape.{EndTape}
use Rattle.tape_core.specs.declared.end_tape.Sent.{Sent}
use Rattle.tape_core.specs.declared.refusal.Refusal.{Refusal}
use Rattle.tape_core.specs.declared.refusal.Refusal.TheVariants.{OutOfMemory}

-- the report that a message is, by who sent it and its number; `None` for a message of another kind
abbrev pub sent_of : NumberedMessage → Option Sent
sent_of n = option_map (λ _. record { who = (header_of n.1).participant; number = (header_of n.1).number }) (reported_content n.1)

-- what is kept is that of this tape, which is open and has the greatest limit and any listing: its register, each participant's
-- last number, and by tape number which report a message is
pub record KeepsEnd (t : TapeState) (e : EndTape) : Type 0 where
  pub tape : IsTape t
  pub unclosed : t.closed ≡ false
  pub limit : t.limit ≡ TAPE_MOST
  pub matrix : t.matrix ≡ e.matrix
  pub targets : IsRegister (messages_of t.entries) (targets_of e.register)
  pub last_numbers : (who : ℕ) → IsParticipant who → last_number_of e.register who ≡ last_number (messages_of t.entries) who
  pub reports : e.reports.items ≡ map sent_of (messages_of t.entries)

-- it is that of some tape
abbrev pub IsKept : EndTape → Type 0
IsKept e = (t : TapeState) × KeepsEnd t e

-- a listing has the names of a message
pub record ListsNames (listing : Names) (m : Message) : Type 0 where
  pub participant : lists_participant listing (header_of m).participant ≡ true
  pub symbol : lists_symbol listing (header_of m).symbol ≡ true

-- it is that of some tape that lists the names of this message
abbrev pub IsKeptFor : EndTape → Message → Type 0
IsKeptFor e m = (t : TapeState) × KeepsEnd t e × ListsNames t.listing m

-- the number of the message's entry, and what it changes
pub record IsEndRoute (t : TapeState) (m : Message) (route : EndRoute) : Type 0 where
  pub number : route.number ≡ length t.entries + 1
  pub change : (index : ℕ) × (message_change (messages_of t.entries) m index ≡ Some route.change)

-- where a message goes on this tape, or the tape's refusal
abbrev pub RoutesOn : TapeState → Message → Result EndRoute Refusal → Type 0
RoutesOn t m (Ok route) = (refusal t m ≡ None) × IsEndRoute t m route
RoutesOn t m (Err r) = refusal t m ≡ Some r

-- where a message goes on each tape that this is kept of and that lists its names
abbrev pub RoutesEnd : EndTape → Message → Result EndRoute Refusal → Type 0
RoutesEnd e m result = (t : TapeState) → KeepsEnd t e → ListsNames t.listing m → RoutesOn t m result

-- a message goes on some tape that this is kept of, where the route says
abbrev pub IsRouted : EndTape → Message → EndRoute → Type 0
IsRouted e m route = (t : TapeState) × KeepsEnd t e × (refusal t m ≡ None) × IsEndRoute t m route

-- what a tape and what is kept of it are after a message: with its entry, or as they were
abbrev pub AnswersOn : TapeState → Message → Result ℕ Refusal → EndTape → Type 0
AnswersOn t m (Ok number) new = (refusal t m ≡ None) × (number ≡ length t.entries + 1) × KeepsEnd (with_message t m) new
AnswersOn t m (Err r) new = (r ≡ unwrap_or (refusal t m) OutOfMemory) × KeepsEnd t new

-- a message is answered as by each tape that this is kept of and that lists its names
abbrev pub AnswersEnd : EndTape → Message → Result ℕ Refusal → EndTape → Type 0
AnswersEnd old m result new = (t : TapeState) → KeepsEnd t old → ListsNames t.listing m → AnswersOn t m result new

-- each tape that this was kept of has this message more
abbrev pub HasMore : EndTape → Message → EndRoute → EndTape → Type 0
HasMore old m route new = (t : TapeState) → KeepsEnd t old → refusal t m ≡ None → IsEndRoute t m route → KeepsEnd (with_message t m) new

-- the same is kept
pub record IsSameEnd (old new : EndTape) : Type 0 where
  pub matrix : new.matrix ≡ old.matrix
  pub register : new.register ≡ old.register
  pub reports : new.reports.items ≡ old.reports.items

-- the register can make a change: no report has the number of one that enters, and the one that another change names stands, or
-- is cancelled for a reinstatement
abbrev pub CanNote : Targets → Header → Change → Type 0
CanNote targets header (Enter content) = map_by.get targets (header.participant, header.number) ≡ None
CanNote targets header (Cancel named) = IsStanding (map_by.get targets (header.participant, named.target))
CanNote targets header (Correct named content) = IsStanding (map_by.get targets (header.participant, named.target))
CanNote targets header (Reinstate named content) = IsCancelled (map_by.get targets (header.participant, named.target))

-- ## What the reports of a symbol come to

-- a participant's own summary of reports
abbrev pub own_summary_of : Matrix → List StandingReport → ℕ → Summary
own_summary_of matrix reports who = summary_of (map (placed_participant matrix) (filter (λ r. r.who == who) reports))

-- the figures of these reports
pub record AreFigures (matrix : Matrix) (reports : List StandingReport) (figures : SymbolFigures) : Type 0 where
  pub all : figures.all ≡ summary_of (map (placed_consolidated matrix) reports)
  pub own : (who : ℕ) → IsParticipant who → slice_get figures.own (row_index who) ≡ Some (own_summary_of matrix reports who)

-- a summary of so many reports at most
pub record IsOfAtMost (most : ℕ) (z : Summary) : Type 0 where
  pub volume : z.volume ≤ SIZE_MOST * most
  pub trades : z.trades ≤ most

-- the figures of so many reports at most
pub record AreOfAtMost (most : ℕ) (figures : SymbolFigures) : Type 0 where
  pub all : IsOfAtMost most figures.all
  pub own : (who : ℕ) → IsParticipant who → IfSome (slice_get figures.own (row_index who)) (IsOfAtMost most)

-- the figures of a symbol, of the reports among the first messages that stand on the whole tape
abbrev pub AreFiguresOf : TapeState → List NumberedMessage → List ℕ → SymbolFigures → Type 0
AreFiguresOf t first symbol figures = AreFigures t.matrix (filter_map (standing_report (messages_of t.entries) symbol) first) figures

-- the figures of all symbols, of these first messages
abbrev pub AreTableOf : TapeState → List NumberedMessage → List SymbolFigures → Type 0
AreTableOf t first table =
    (symbol : List ℕ) (index : ℕ) → position (symbol_eq symbol) t.listing.symbols ≡ Some index → IfSome (slice_get table index) (AreFiguresOf t first symbol)

-- what is kept of a message is that of a message of this tape: nothing, or the report that its name names
abbrev pub IsSentOf : TapeState → NumberedMessage → Option Sent → Type 0
IsSentOf t n sent = (sent ≡ sent_of n) × IfSome sent (λ s. named_report (messages_of t.entries) s.who s.number ≡ Some n)

-- a message is counted after these, by a listing
abbrev pub CountsMessage : EndTape → Names → Option Sent → List SymbolFigures → List SymbolFigures → Type 0
CountsMessage e listing sent old new =
    (t : TapeState) (first : List NumberedMessage) (n : NumberedMessage) → KeepsEnd t e → t.listing ≡ listing → IsSentOf t n sent → AreTableOf t first old
    → AreTableOf t (first ++ n ∷ []) new
