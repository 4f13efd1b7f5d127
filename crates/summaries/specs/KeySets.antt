-- Sets of keys with one key inserted or removed.
use Rattle.std.specs.Prelude.{◌≡◌, ℕ, Bool, cond, ◌⊎◌}
use Rattle.std.specs.Ordering.{nat_cmp}
use Rattle.std.specs.FinMap as map
use Rattle.std.specs.FinSet as set
use Rattle.price_index.specs.Pairs.{PairSet}

-- a set of places
abbrev pub PlaceSet : Type 0
PlaceSet = map.FinMap nat_cmp (Unit {0})

-- the set with this pair too, if `wanted`
abbrev pub with_pair : Bool → PairSet → ℕ × ℕ → PairSet
with_pair wanted s k = cond wanted (set.insert s k) s

-- the set without this pair, if `wanted`
abbrev pub without_pair : Bool → PairSet → ℕ × ℕ → PairSet
without_pair wanted s k = cond wanted (set.remove s k) s

-- the set with this place too, if `wanted`
abbrev pub with_place : Bool → PlaceSet → ℕ → PlaceSet
with_place wanted s n = cond wanted (map.insert s n tt) s

-- the set without this place, if `wanted`
abbrev pub without_place : Bool → PlaceSet → ℕ → PlaceSet
without_place wanted s n = cond wanted (map.remove s n) s

-- x is one of the two
abbrev pub IsEither : {X : Type 0} → X → X → X → Type 0
IsEither x a b = (x ≡ a) ⊎ (x ≡ b)
