-- The numbers that a window misses, and those that it requests.
use Rattle.std.specs.Prelude.{◌≡◌, ℕ, ◌+◌, ◌-◌, ◌≤◌, ◌<◌, nat_lt, if◌then◌else◌, List, Option, None, slice_get}
use Rattle.tape_core.specs.declared.entry.Entry.{Entry}
use Rattle.tape_frames.specs.Limits.{LONGEST_SPAN}
use Rattle.arbitration.specs.Windows.{WindowState, flat}

-- the most numbers that one request asks for
abbrev pub ASKED_MOST : ℕ
ASKED_MOST = LONGEST_SPAN

-- the entry that waits under a number, if the first slot is for the number next
abbrev pub waiting_entry : ℕ → List (Option Entry) → ℕ → Option Entry
waiting_entry next slots n = if nat_lt n next then None else flat (slice_get slots (n - next))

-- a number above the base that was announced and does not wait
abbrev pub IsMissing : WindowState → ℕ → Type 0
IsMissing w n = (w.base < n) × (n ≤ w.announced) × (waiting_entry (w.base + 1) w.slots n ≡ None)

-- the first missing numbers, up to the next that is not missing, and no more than one request asks for
pub record IsGap (w : WindowState) (from count : ℕ) : Type 0 where
  pub least : (n : ℕ) → IsMissing w n → from ≤ n
  pub all : (n : ℕ) → from ≤ n → n < from + count → IsMissing w n
  pub some : 1 ≤ count
  pub few : count ≤ ASKED_MOST
  pub ends : count < ASKED_MOST → ¬ (IsMissing w (from + count))
