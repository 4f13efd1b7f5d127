-- The state of a map in one vector as contracts see it.
use Rattle.std.specs.Prelude.{ℕ, refl}
use Rattle.std.specs.Coded.{Coded, code_by, coded_ℕ, coded×}
use Rattle.std.specs.Ordering.{nat_cmp}
use Rattle.std.specs.FinMap as map

-- the values by key, and how many more entries the vector takes before it allocates
pub record RisingState (X : Type 0) : Type 0 where
  pub values : map.FinMap nat_cmp X
  pub spare : ℕ

-- it is stored as the pair of its fields
abbrev pub rising_code : {X : Type 0} → Coded X → Coded (RisingState X)
rising_code {X} code =
    code_by (map.FinMap nat_cmp X × ℕ) (coded× (map.code coded_ℕ code) coded_ℕ)
    (λ r. (r.values, r.spare)) (λ p. record { values = p.0; spare = p.1 }) (λ _. refl)
