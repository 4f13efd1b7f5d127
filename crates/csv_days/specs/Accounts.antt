-- What the rows that tell of a day's reports are made from.
use Rattle.std.specs.Prelude.{◌≡◌, ◌+◌, ◌*◌, ◌/◌, ◌%◌, ◌<◌, ℕ, List, get_or, length, slice_index, unwrap_or}
use Rattle.tape_types.specs.Ranges.{FIRST_PARTICIPANT, PARTICIPANTS_MOST}
use Rattle.scratch_fold.specs.Fold.{empty_summary}
use Rattle.scratch_fold.specs.declared.summary.Summary.{Summary}
use Rattle.tape_core.specs.Standing.{NumberedMessage}
use Rattle.tape_core.specs.Tape.{TapeState, messages_of, participant_summary_at_index}
use Rattle.csv_days.specs.Explained.{last_change_in}
use Rattle.csv_days.specs.declared.account.Account.{Account}

-- for each place of a tape the number of the last of some messages that changed the report there, 0 for none
pub record AreChanges (tape ns : List NumberedMessage) (changes : List ℕ) : Type 0 where
  pub count : length changes ≡ length tape
  pub each : (k : ℕ) → k < length tape → slice_index changes k ≡ last_change_in tape (k + 1) ns

-- a participant's own summary of a symbol, by their place among all: symbol by symbol, and for each letter by letter
abbrev pub own_at : TapeState → ℕ → Summary
own_at t place =
    unwrap_or (participant_summary_at_index t (place / PARTICIPANTS_MOST) (FIRST_PARTICIPANT + place % PARTICIPANTS_MOST)) empty_summary

-- the participants' own summaries of all symbols of a tape
pub record AreOwn (t : TapeState) (own : List Summary) : Type 0 where
  pub count : length own ≡ length t.listing.symbols * PARTICIPANTS_MOST
  pub each : (place : ℕ) (other : Summary) → place < length own → get_or own place other ≡ own_at t place

-- a day's tape has a row for each entry, the last change of each report, and the participants' own summaries
pub record IsAccount (account : Account) : Type 0 where
  pub rows : length account.rows.items ≡ length account.day.tape.entries
  pub changes : AreChanges (messages_of account.day.tape.entries) (messages_of account.day.tape.entries) account.changes.items
  pub own : AreOwn account.day.tape account.own.items
