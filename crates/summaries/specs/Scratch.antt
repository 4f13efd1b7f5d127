-- The invariant of the plain store: its staged change replaces an effect.
use Rattle.std.specs.Prelude.{Some, None, IsSome}
use Rattle.std.specs.FinMap as map
use Rattle.summaries.specs.Effects.{Effects, Change}

-- the staged change is at a place that has an effect
abbrev pub ReplacesEffect : Effects → Change → Type 0
ReplacesEffect m None = Unit {0}
ReplacesEffect m (Some w) = IsSome (map.get m w.0)
