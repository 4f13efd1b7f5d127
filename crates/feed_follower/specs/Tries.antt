-- How often a follower tries to connect.
use Rattle.std.specs.Prelude.{ℕ, ◌*◌, ◌+◌, Option, None, Some}
use Rattle.feed_follower.specs.declared.tries.TheConstants.{PAUSES}

-- one try at once and one after each pause of so many seconds; only the first without them
abbrev pub tries_within : Option ℕ → ℕ
tries_within None = 1
tries_within (Some seconds) = seconds * PAUSES + 1
