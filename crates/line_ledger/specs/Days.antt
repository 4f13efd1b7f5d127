-- The terms of a day, its tape behind the lock, and its ended tape.
use Rattle.std.specs.Prelude.{◌≡◌, ℕ, ◌==◌, Bool, false, ◌&&◌, List}
use Rattle.tape_types.specs.Names.{Names}
use Rattle.sale_matrix.specs.declared.matrix.Matrix.{Matrix}
use Rattle.tape_core.specs.Standing.{count_of, sizes_of, last_number}
use Rattle.tape_core.specs.Tape.{TapeState, IsTape, messages_of}

-- the terms that name a day and that its tape keeps to
pub record Terms : Type 0 where
  pub listing : Names
  pub matrix : Matrix
  pub limit : ℕ

-- the terms that a tape keeps to
abbrev pub terms_of : TapeState → Terms
terms_of t = record { listing = t.listing; matrix = t.matrix; limit = t.limit }

-- an open legal tape of these terms
pub record IsDay (terms : Terms) (t : TapeState) : Type 0 where
  pub tape : IsTape t
  pub unclosed : t.closed ≡ false
  pub listed : t.listing ≡ terms.listing
  pub by_matrix : t.matrix ≡ terms.matrix
  pub limited : t.limit ≡ terms.limit

-- whether the tape's count, sizes and last number of a participant are these
abbrev pub has_figures : TapeState → ℕ → ℕ → ℕ → ℕ → Bool
has_figures t who count sizes last =
    count_of (messages_of t.entries) who == count && (sizes_of (messages_of t.entries) who == sizes && last_number (messages_of t.entries) who == last)

-- the value behind the lock: the day's tape, and how many of the first cells are counted as set
pub record LockedState : Type 0 where
  pub tape : TapeState
  pub set : ℕ

-- an ended day: its closed tape, the names of its cells, and how many of the first cells hold the first entries
pub record DayState : Type 0 where
  pub tape : TapeState
  pub names : List ℕ
  pub published : ℕ
