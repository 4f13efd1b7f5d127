-- Entries in the order of their keys, which are numbers.
use Rattle.std.specs.Prelude.{◌≡◌, ℕ, ◌<◌, ◌≤◌, List, length, map as map_list, slice_index_or, T, IsSome}
use Rattle.std.specs.List.{AllWithin}
use Rattle.std.specs.Ordering.{nat_cmp}
use Rattle.std.specs.FinMap as map

-- the keys strictly rise
abbrev pub HasRisingKeys : {X : Type 0} → List (ℕ × X) → Type 0
HasRisingKeys es = T (map.is_sorted nat_cmp es)

-- the position of a key in the order of the entries: all before it are below the key, and none from there on is
pub record IsPosition {X : Type 0} (key : ℕ) (es : List (ℕ × X)) (i : ℕ) : Type 0 where
  pub in_range : i ≤ length es
  pub below : AllWithin (λ (e : ℕ × X). e.0 < key) es 0 i
  pub not_below : AllWithin (λ (e : ℕ × X). key ≤ e.0) es i (length es)

-- entries with each key replaced by its number
abbrev pub keyed : {K X : Type 0} → (K → ℕ) → List (K × X) → List (ℕ × X)
keyed number es = map_list (λ e. (number e.0, e.1)) es

-- the index at which a key that has a value stands
pub record StandsIn {X : Type 0} (key : ℕ) (es : List (ℕ × X)) (i : ℕ) : Type 0 where
  pub position : IsPosition key es i
  pub within : i < length es
  pub has_key : (d : ℕ × X) → (slice_index_or es i d).0 ≡ key

-- each key that has a value is below n
abbrev pub AllBelow : {X : Type 0} → map.FinMap nat_cmp X → ℕ → Type 0
AllBelow m n = (q : ℕ) → IsSome (map.get m q) → q < n
