-- How many packets the sender sends in a millisecond.
use Rattle.std.specs.Prelude.{ℕ, ◌+◌, ◌-◌, ◌/◌, ◌%◌, ◌^◌, ◌==◌, nat_le, min, max, Bool, if◌then◌else◌}
use Rattle.live_feed.specs.declared.pace.TheConstants.{CEILING_LEAST, CALM_LEAST, CALM_RESTS, PACE_LEAST, PACE_MOST, PACE_STEP}

-- what a contract sees of a pace: how many packets are sent in a millisecond, how far that may rise, and for how many rests
-- nothing was asked for
pub record PaceState : Type 0 where
  pub packets : ℕ
  pub ceiling : ℕ
  pub calm : ℕ

-- the next ceiling: three quarters of the pace if something was asked for after a calm, and a packet more after each so many
-- calm rests, within its bounds
abbrev pub ceiling_after : Bool → PaceState → ℕ
ceiling_after asked p =
    if asked
    then (if nat_le CALM_LEAST p.calm then max CEILING_LEAST (p.packets - p.packets / 4) else p.ceiling)
    else (if p.calm % CALM_RESTS == CALM_RESTS - 1 then min PACE_MOST (p.ceiling + 1) else p.ceiling)

-- the next pace: half of it if something was asked for since it was last looked at, and else a step more; it stays between the
-- least one and the ceiling
abbrev pub pace_after : Bool → PaceState → PaceState
pace_after asked p = record {
  packets = if asked then max PACE_LEAST (p.packets / 2) else min (ceiling_after asked p) (p.packets + PACE_STEP);
  ceiling = ceiling_after asked p;
  calm = if asked then 0 else min (p.calm + 1) (2 ^ 32 - 1);
}
