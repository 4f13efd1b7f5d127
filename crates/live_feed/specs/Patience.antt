-- For how long followers are waited for after a day's end.
use Rattle.std.specs.Prelude.{ℕ, ◌-◌, ◌*◌, nat_le, ◌||◌, Bool, false, Option, None, Some}
use Rattle.live_feed.specs.declared.patience.TheConstants.{SECOND}

-- so many seconds have passed at this time, of a wait that began then, in nanoseconds of the clock; without such a number they
-- never have
abbrev pub has_passed : Option ℕ → ℕ → ℕ → Bool
has_passed None began now = false
has_passed (Some seconds) began now = nat_le (seconds * SECOND) (now - began)

-- followers are waited for no longer: someone asked for that, or the time in which they may ask has passed
abbrev pub is_enough : Bool → Option ℕ → ℕ → ℕ → Bool
is_enough hurried seconds began now = hurried || has_passed seconds began now
