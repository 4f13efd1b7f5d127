-- What is known of the participants' lines.
use Rattle.std.specs.Prelude.{◌≡◌, ◌==◌, ◌<◌, ◌∷◌, ◌||◌, ℕ, Bool, true, false, not, Option, None, Some, List, [], length, slice_index_or}
use Rattle.line_ledger.specs.Seats.{SeatState, last_told}
use Rattle.participant_lines.specs.declared.line_end.LineOutcome.{LineOutcome}
use Rattle.participant_lines.specs.declared.tally.Tally.{Tally}
use Rattle.live_feed.specs.declared.account.LineAccount.{LineAccount}
use Rattle.live_feed.specs.declared.line_counts.MessageCounts.{MessageCounts}
use Rattle.live_feed.specs.declared.line_counts.LineStage.{LineStage}
use Rattle.live_feed.specs.declared.line_counts.LineStage.TheVariants.{Awaited, Absent, Unawaited, Open, Closed}

-- whether a participant connected
abbrev pub has_connected : LineStage → Bool
has_connected Awaited = false
has_connected (Absent seconds) = false
has_connected Unawaited = false
has_connected (Open since) = true
has_connected (Closed since) = true

-- the stage of a line whose connection did not come: within so many seconds, or before the day was ended
abbrev pub absent_stage : Bool → Option ℕ → LineStage
absent_stage is_ended None = Unawaited
absent_stage true (Some seconds) = Unawaited
absent_stage false (Some seconds) = Absent seconds

-- whether a line's counts are said: its participant has connected, or the day goes on after some of its messages
abbrev pub is_counted : LineStage → MessageCounts → Bool
is_counted stage counts = has_connected stage || not (counts.admitted == 0)

-- what an account tells of a line's end: whose it is, how many messages were admitted, the last one's number, what was refused,
-- and why no more were done
abbrev pub told_account : LineAccount → ℕ × MessageCounts × LineOutcome
told_account a = (a.who, a.counts, a.ended)

-- what is to be told of it, by the line's seat
abbrev pub told_end : SeatState → Tally → LineOutcome → ℕ × MessageCounts × LineOutcome
told_end seat tally ended = (seat.who, record { admitted = length seat.told; last = last_told 0 seat.told; tally = tally }, ended)

-- whose line it is, how many messages were admitted, and the last one's number, by an account and by a seat
abbrev pub numbers_of : LineAccount → List ℕ
numbers_of a = a.who ∷ a.counts.admitted ∷ a.counts.last ∷ []

abbrev pub seat_numbers : SeatState → List ℕ
seat_numbers seat = seat.who ∷ length seat.told ∷ last_told 0 seat.told ∷ []

-- each tells the numbers of the seat at its place
abbrev pub AreAccounts : List SeatState → List LineAccount → Type 0
AreAccounts seats accounts =
    (i : ℕ) (s : SeatState) (a : LineAccount) → i < length accounts → numbers_of (slice_index_or accounts i a) ≡ seat_numbers (slice_index_or seats i s)

-- whether the end waits for a line
abbrev pub is_awaited : LineStage → Bool
is_awaited Awaited = true
is_awaited (Absent seconds) = false
is_awaited Unawaited = false
is_awaited (Open since) = true
is_awaited (Closed since) = false
