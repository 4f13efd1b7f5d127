-- How many connections of the retransmission are served, and how many the day's end waits for.
use Rattle.std.specs.Prelude.{◌+◌, ◌-◌, ◌^◌, ℕ, Bool, true, false, min}
use Rattle.std.specs.List.{count_by}
use Rattle.live_feed.specs.declared.follower_counts.FollowerState.{FollowerState}
use Rattle.live_feed.specs.declared.follower_counts.FollowerState.TheVariants.{Served, Ended, GivenUp}
use Rattle.live_feed.specs.declared.follower_counts.SeenFollowers.{SeenFollowers}

-- whether a connection is served
abbrev pub is_served : FollowerState → Bool
is_served Served = true
is_served Ended = false
is_served GivenUp = false

-- how many connections are served
abbrev pub served_in : SeenFollowers → ℕ
served_in f = count_by (λ c. is_served c.state) f.counts.items

-- how many connections have still to come
abbrev pub missing_in : SeenFollowers → ℕ
missing_in f = f.serves - f.came

-- how many connections the day's end waits for
abbrev pub left_in : SeenFollowers → ℕ
left_in f = min (missing_in f + served_in f) (2 ^ 64 - 1)
