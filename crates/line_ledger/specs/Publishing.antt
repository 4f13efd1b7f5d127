-- What a publication sets, and what a reader of the cells has found.
use Rattle.std.specs.Prelude.{◌≡◌, ℕ, ◌+◌, ◌-◌, ◌<◌, ◌++◌, min, List, length}
use Rattle.tape_core.specs.declared.entry.Entry.{Entry}
use Rattle.seen_cells.specs.declared.Seen.{Seen}
use Rattle.line_ledger.specs.Cells.{TokenState, NextTokens, NextSeen}
use Rattle.line_ledger.specs.Days.{LockedState}

-- how many entries are not yet counted as set
abbrev pub unset : LockedState → ℕ
unset l = length l.tape.entries - l.set

-- the next cells were set to the tape's next entries, as many as there are up to the most, and are counted
pub record Publishes (l : LockedState) (names : List ℕ) (most : ℕ) (tokens : List TokenState) (l' : LockedState) : Type 0 where
  pub many : length tokens ≡ min most (unset l)
  pub next : NextTokens names l.tape.entries l.set tokens
  pub counted : l' ≡ record l { set = l.set + length tokens }

-- the same, by what was seen in the cells that were set
pub record Sets (l : LockedState) (names : List ℕ) (most : ℕ) (seen : List (Seen Entry)) (l' : LockedState) : Type 0 where
  pub many : length seen ≡ min most (unset l)
  pub next : NextSeen names l.tape.entries l.set seen
  pub counted : l' ≡ record l { set = l.set + length seen }

-- fewer of the next cells were seen to be set to the tape's next entries, and those are counted
pub record Stops (l : LockedState) (names : List ℕ) (most : ℕ) (l' : LockedState) : Type 0 where
  pub seen : List (Seen Entry)
  pub fewer : length seen < min most (unset l)
  pub next : NextSeen names l.tape.entries l.set seen
  pub counted : l' ≡ record l { set = l.set + length seen }

-- a reader of the cells: their names, and the tokens that it found, which are of the first of them
pub record PublishedState : Type 0 where
  pub names : List ℕ
  pub tokens : List TokenState

-- the second list goes on where the first ends
abbrev pub GoesOn : List TokenState → List TokenState → Type 0
GoesOn tokens tokens' = (more : List TokenState) × (tokens' ≡ tokens ++ more)
