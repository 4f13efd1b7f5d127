-- The state of a window as contracts see it, and its invariant.
use Rattle.std.specs.Prelude.{◌≡◌, ℕ, ◌+◌, ◌≤◌, List, [], ◌∷◌, ◌++◌, length, Option, None, Some, is_some, slice_get, drop, replicate, count_by, IfSome}
use Rattle.tape_core.specs.declared.entry.Entry.{Entry}
use Rattle.tape_types.specs.Ranges.{TAPE_MOST}
use Rattle.arbitration.specs.declared.line.Brought.{Brought}

-- how many numbers above its base a window reaches
unfoldable pub REACH : ℕ
REACH = 1024

-- a window: how many entries were taken out, the slots of the numbers above, the greatest number announced, the end that was
-- taken, and what each line brought. The first slot is for the number base + 1, and so on
pub record WindowState : Type 0 where
  pub session : ℕ
  pub base : ℕ
  pub slots : List (Option Entry)
  pub announced : ℕ
  pub ended : Option ℕ
  pub brought : Brought

-- the entry of a slot, None if there is no slot
abbrev pub flat : {A : Type 0} → Option (Option A) → Option A
flat None = None
flat (Some slot) = slot

-- as many slots as a window has, all of them empty
abbrev pub empty_slots : {A : Type 0} → List (Option A)
empty_slots = replicate REACH None

-- the window of a session before any packet
abbrev pub empty_window : ℕ → WindowState
empty_window session = record {
  session = session;
  base = 0;
  slots = empty_slots;
  announced = 0;
  ended = None;
  brought = record { a = 0; b = 0; r = 0 };
}

-- the entry to take out next
abbrev pub next_of : WindowState → Option Entry
next_of w = flat (slice_get w.slots 0)

-- the entries before the first empty slot
abbrev pub ready_entries : List (Option Entry) → List Entry
ready_entries [] = []
ready_entries (None ∷ slots) = []
ready_entries (Some e ∷ slots) = e ∷ ready_entries slots

-- the window after its first n slots are taken out
abbrev pub window_past : ℕ → WindowState → WindowState
window_past n w = record w { base = w.base + n; slots = drop n w.slots ++ replicate n None }

-- each slot is empty or holds the entry of its number, which was announced
abbrev pub ArePlaced : ℕ → ℕ → List (Option Entry) → Type 0
ArePlaced next announced [] = Unit {0}
ArePlaced next announced (None ∷ slots) = ArePlaced (next + 1) announced slots
ArePlaced next announced (Some e ∷ slots) = (e.number ≡ next) × (next ≤ announced) × ArePlaced (next + 1) announced slots

-- the invariant of each window. What the lines brought was taken out or waits
pub record IsWindow (w : WindowState) : Type 0 where
  pub size : length w.slots ≡ REACH
  pub placed : ArePlaced (w.base + 1) w.announced w.slots
  pub reached : w.base ≤ w.announced
  pub within : w.announced ≤ TAPE_MOST
  pub end : IfSome w.ended (λ count. w.announced ≤ count)
  pub counted : w.brought.a + w.brought.b + w.brought.r ≡ w.base + count_by is_some w.slots
