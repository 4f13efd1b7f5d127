-- The keys that an effect has in the indexes, and which of them another effect at its place does not have.
use Rattle.std.specs.Prelude.{ℕ, Bool, false, not, ◌&&◌, ◌==◌, Option, Some, None}
use Rattle.scratch_fold.specs.declared.summary.Effect.{Effect}
use Rattle.summaries.specs.Last.{is_always, is_same_market, is_conditional}
use Rattle.summaries.specs.declared.keys.OwnKeys.{OwnKeys}

-- whether there is an effect that passes
abbrev pub passes : (Effect → Bool) → Option Effect → Bool
passes p None = false
passes p (Some e) = p e

-- whether the effect always sets the last
abbrev pub is_always_effect : Effect → Bool
is_always_effect e = is_always e.last

-- whether the effect sets the last only under a condition
abbrev pub is_conditional_effect : Effect → Bool
is_conditional_effect e = is_conditional e.last

-- whether the effect is of `who` and sets the last after its own participant
abbrev pub is_same_market_of : ℕ → Effect → Bool
is_same_market_of who e = is_same_market e.last && (who == e.who)

-- whether the effect has this price and may become the high or the low
abbrev pub is_priced_at : ℕ → Effect → Bool
is_priced_at price e = e.high_low && (price == e.price)

-- whether an effect passes and the one beside it, if there is one, does not
abbrev pub is_fresh : (Effect → Bool) → Effect → Option Effect → Bool
is_fresh p e beside = p e && not (passes p beside)

-- which keys of an effect the one beside it does not have
abbrev pub own_keys : Effect → Option Effect → OwnKeys
own_keys e beside = record {
  price = is_fresh (is_priced_at e.price) e beside;
  always = is_fresh is_always_effect e beside;
  setter = is_fresh is_conditional_effect e beside;
  same = is_fresh (is_same_market_of e.who) e beside;
}
