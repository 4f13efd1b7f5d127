-- The state of the plain store, as a contract sees it.
use Rattle.std.specs.Prelude.{ℕ, refl}
use Rattle.std.specs.Coded.{Coded, code_by, coded_ℕ, coded×, coded_option}
use Rattle.std.specs.FinMap as map
use Rattle.scratch_fold.specs.declared.summary.Effect.{Effect}
use Rattle.summaries.specs.Effects.{Effects, Change}

-- the effects by place, the staged change, and how many more effects the store takes before it allocates
pub record ScratchState : Type 0 where
  pub effects : Effects
  pub staged : Change
  pub spare : ℕ

-- it is stored as a pair of the effects with the change, and the number
abbrev pub scratch_code : Coded Effect → Coded ScratchState
scratch_code effect =
    code_by ((Effects × Change) × ℕ) (coded× (coded× (map.code coded_ℕ effect) (coded_option (coded× coded_ℕ effect))) coded_ℕ)
    (λ s. ((s.effects, s.staged), s.spare)) (λ p. record { effects = p.0.0; staged = p.0.1; spare = p.1 }) (λ _. refl)
