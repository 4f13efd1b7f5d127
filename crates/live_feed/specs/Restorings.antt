-- What a day that goes on has of its journal.
use Rattle.std.specs.Prelude.{◌≡◌, ◌++◌, ◌∷◌, ℕ, List, [], Some, drop, slice_get, slice_set}
use Rattle.day_journal.specs.Journals.{IsRead, ReaderState, reader_at}
use Rattle.line_ledger.specs.Cells.{FirstTokens, TokenState, shown}
use Rattle.line_ledger.specs.Seats.{SeatState, with_told}
use Rattle.live_feed.specs.Journals.{entries_of}
use Rattle.reports.specs.Messages.{header_of}
use Rattle.tape_core.specs.declared.entry.Entry.{Entry}

-- these groups were read one after the other
unfoldable pub ReadsGroups : List (List Entry) → ReaderState → ReaderState → Type 0
ReadsGroups [] old new = new ≡ old
ReadsGroups (es ∷ groups) old new = (mid : ReaderState) × IsRead old es mid × ReadsGroups groups mid new

-- a seat of an entry's participant was told the entry, and no other seat anything
pub record TellsEntry (old : List SeatState) (e : Entry) (new : List SeatState) : Type 0 where
  pub at : ℕ
  pub seat : SeatState
  pub found : slice_get old at ≡ Some seat
  pub own : (header_of e.message).participant ≡ seat.who
  pub told : new ≡ slice_set old at (with_told seat e.number e.message)

-- these entries were told one after the other
unfoldable pub TellsEntries : List SeatState → List Entry → List SeatState → Type 0
TellsEntries old [] new = new ≡ old
TellsEntries old (e ∷ es) new = (mid : List SeatState) × TellsEntry old e mid × TellsEntries mid es new

-- groups were read, and the seats were told their entries, which are published behind what was
pub record IsRestored (old : ReaderState) (seats : List SeatState) (before : List Entry) (new : ReaderState) (seats' : List SeatState)
    (after : List Entry) : Type 0 where
  pub groups : List (List Entry)
  pub read : ReadsGroups groups old new
  pub told : TellsEntries seats (entries_of groups) seats'
  pub published : after ≡ before ++ entries_of groups

-- the first cells hold the entries of all groups that a journal has behind its header, as many as were told, and the seats were
-- told these
pub record Restores (session : ℕ) (digest : List ℕ) (start : ℕ) (journal : List ℕ) (held : ℕ) (cells : List ℕ) (seats seats' : List SeatState) : Type 0 where
  pub end : ReaderState
  pub tokens : List TokenState
  pub restored : IsRestored (reader_at session 0 digest start (drop start journal)) seats [] end seats' (shown tokens)
  pub first : FirstTokens cells tokens
  pub whole : end.rest ≡ []
  pub many : end.held ≡ held
