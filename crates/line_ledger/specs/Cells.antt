-- A row of cells by their names, and what tokens show of them.
use Rattle.std.specs.Prelude.{◌≡◌, ℕ, ◌+◌, ◌-◌, ◌<◌, ◌≤◌, List, length, map, slice_get, slice_index_or, Some, All}
use Rattle.tape_core.specs.declared.entry.Entry.{Entry}
use Rattle.seen_cells.specs.declared.Seen.{Seen}

-- a token: the number and the entry that it shows, and the name of the cell that holds the entry
pub record TokenState : Type 0 where
  pub number : ℕ
  pub entry : Entry
  pub cell : ℕ

-- the token is of the cell of its number, counted from 1, in a row of cells of these names
abbrev pub IsTokenOf : List ℕ → TokenState → Type 0
IsTokenOf names t = (1 ≤ t.number) × (slice_get names (t.number - 1) ≡ Some t.cell)

-- P holds of each element and its place, from 0
abbrev pub Each : {X : Type 0} → (ℕ → X → Type 0) → List X → Type 0
Each {X = X} P xs = (i : ℕ) (d : X) → i < length xs → P i (slice_index_or xs i d)

-- a token of the cell of this number, with the entry of this number
abbrev pub TokenAt : List ℕ → List Entry → ℕ → TokenState → Type 0
TokenAt names entries number t = (t.number ≡ number) × IsTokenOf names t × (slice_get entries (number - 1) ≡ Some t.entry)

-- tokens of the cells after the first `set`, in order
abbrev pub NextTokens : List ℕ → List Entry → ℕ → List TokenState → Type 0
NextTokens names entries set tokens = Each (λ i t. TokenAt names entries (set + i + 1) t) tokens

-- tokens of the first cells, in order
abbrev pub FirstTokens : List ℕ → List TokenState → Type 0
FirstTokens names tokens = Each (λ i t. IsTokenOf names t × (t.number ≡ i + 1)) tokens

-- the entries that tokens show
abbrev pub shown : List TokenState → List Entry
shown tokens = map (λ t. t.entry) tokens

-- the entries have each token's entry at its number
abbrev pub HaveAll : List Entry → List TokenState → Type 0
HaveAll entries tokens = All (λ t. slice_get entries (t.number - 1) ≡ Some t.entry) tokens

-- the cell at this place, from 0, was seen to hold the entry at this place
abbrev pub SeenAt : List ℕ → List Entry → ℕ → Seen Entry → Type 0
SeenAt names entries at s = (slice_get names at ≡ Some s.cell) × ((e : Entry) × (slice_get entries at ≡ Some e) × (s.known ≡ Some e))

-- the first cells were seen to hold the first entries
abbrev pub FirstSeen : List ℕ → List Entry → List (Seen Entry) → Type 0
FirstSeen names entries seen = Each (λ i s. SeenAt names entries i s) seen

-- the cells after the first `set` were seen to hold the entries of their numbers, in order
abbrev pub NextSeen : List ℕ → List Entry → ℕ → List (Seen Entry) → Type 0
NextSeen names entries set seen = Each (λ i s. SeenAt names entries (set + i) s) seen
