-- How far what was told has been compared with a participant's entries.
use Rattle.std.specs.Prelude.{◌≡◌, ℕ, ◌<◌, ◌≤◌, ◌++◌, ◌∷◌, [], Bool, true, false, List, length, take, Option, IfSome, slice_get}
use Rattle.tape_types.specs.Ranges.{IsParticipant, row_index}
use Rattle.tape_core.specs.declared.entry.Entry.{Entry}
use Rattle.line_ledger.specs.declared.cursor.Cursor.{Cursor}
use Rattle.line_ledger.specs.declared.cursor.Cursors.{Cursors}
use Rattle.line_ledger.specs.declared.told.Told.{Told}
use Rattle.line_ledger.specs.Ends.{told_by, told_entry, told_of, DiffersFirst}
use Rattle.line_ledger.specs.Seats.{SeatState}

-- what was told has been compared with the first entries: they are what was told up to this position, or the two first differ
-- at it
pub record Compared (told entries : List Told) (at : ℕ) (differs : Bool) : Type 0 where
  pub same : differs ≡ false → (entries ≡ take at told) × (at ≤ length told)
  pub first : differs ≡ true → DiffersFirst told entries at × (at < length entries)

-- a cursor over what was told, after these entries
abbrev pub StandsAt : List Told → List Told → Cursor → Type 0
StandsAt told entries c = (c.told.now ≡ told) × Compared told entries c.at c.differs

-- a cursor before and after one more entry
abbrev pub Passes : Entry → Cursor → Cursor → Type 0
Passes e before after = (told entries : List Told) → StandsAt told entries before → StandsAt told (entries ++ told_entry e ∷ []) after

-- each participant's cursor, in a row by letter, stands over what its seat was told
abbrev pub AllStandAt : List Cursor → List SeatState → List Entry → Type 0
AllStandAt row seats entries = (who : ℕ) → IsParticipant who
    → IfSome (slice_get row (row_index who)) (StandsAt (told_by who seats) (told_of who entries))

-- a participant's cursor, in a row by letter
abbrev pub cursor_at : Cursors → ℕ → Option Cursor
cursor_at cursors who = slice_get cursors.row (row_index who)
