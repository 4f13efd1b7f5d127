-- How a book keeps its trades in stores of effects.
use Rattle.std.specs.Prelude.{◌≡◌, ℕ, nat_le, false, cond, List, get_or, map, All, Option, Some, None}
use Rattle.std.specs.Option.{option_map}
use Rattle.std.specs.Ordering.{nat_cmp, eq_by_cmp}
use Rattle.std.specs.FinMap as map
use Rattle.scratch_fold.specs.declared.summary.Effect.{Effect}
use Rattle.summaries.specs.Effects.{Effects, Change}
use Rattle.symbol_book.specs.declared.trade.Trade.{Trade}
use Rattle.tape_types.specs.Ranges.{FIRST_PARTICIPANT, row_index}
use Rattle.symbol_book.specs.Columns.{Trades, consolidated_effect_of, own_effect_at}

-- what each participant's own store holds, in a row of stores by letter; the row begins with `A`, and beyond it nothing is held
abbrev pub participant_effects : {S : Type 0} → (S → Effects) → List S → ℕ → Effects
participant_effects effects_in stores who = cond (nat_le FIRST_PARTICIPANT who) (get_or (map effects_in stores) (row_index who) map.empty) map.empty

-- the trade whose effects these are; without one of its own, which no book has, any columns do
abbrev pub trade_of : Effect → Option Effect → Trade
trade_of all None = record {
  who = all.who;
  price = all.price;
  size = all.size;
  cells = record { ch = all.high_low; cl = all.last; ph = false; pl = all.last; volume = all.volume };
}
trade_of all (Some mine) = record {
  who = all.who;
  price = all.price;
  size = all.size;
  cells = record { ch = all.high_low; cl = all.last; ph = mine.high_low; pl = mine.last; volume = all.volume };
}

-- the trades of a consolidated store and of the participants' own
abbrev pub trades_of : Effects → (ℕ → Effects) → Trades
trades_of all of_who = map.from_entries (map (λ e. (e.0, trade_of e.1 (map.get (of_who e.1.who) e.0))) (map.entries all))

-- the trades of a book's stores
abbrev pub book_trades : {S : Type 0} → (S → Effects) → S → List S → Trades
book_trades effects_in all stores = trades_of (effects_in all) (participant_effects effects_in stores)

-- the stores hold these trades: each in the consolidated columns, and each in its participant's own store
pub record HoldTrades (m : Trades) (all : Effects) (of_who : ℕ → Effects) : Type 0 where
  pub all_are : (n : ℕ) → map.get all n ≡ option_map consolidated_effect_of (map.get m n)
  pub own_are : (who n : ℕ) → map.get (of_who who) n ≡ own_effect_at who (map.get m n)

-- nothing is staged in any participant's store
abbrev pub AllSettled : {S : Type 0} → (S → Change) → List S → Type 0
AllSettled change_in stores = All (λ s. change_in s ≡ None) stores

-- a book's stores hold one map of trades, and nothing is staged
pub record IsBook {S : Type 0} (effects_in : S → Effects) (change_in : S → Change) (all : S) (stores : List S) : Type 0 where
  pub trades : HoldTrades (book_trades effects_in all stores) (effects_in all) (participant_effects effects_in stores)
  pub settled : change_in all ≡ None
  pub own_settled : AllSettled change_in stores

-- the participants' effects, those of one of them replaced
abbrev pub participant_effects_with : (ℕ → Effects) → ℕ → Effects → ℕ → Effects
participant_effects_with of_who who new w = cond (eq_by_cmp nat_cmp w who) new (of_who w)

-- the participants' own stores changed: that of `who` holds these effects, the others hold what they held, and nothing is
-- staged
pub record OwnBecomes {S : Type 0} (effects_in : S → Effects) (change_in : S → Change) (old new : List S) (who : ℕ) (effects : Effects) : Type 0 where
  pub held_now : (w : ℕ) → participant_effects effects_in new w ≡ participant_effects_with (participant_effects effects_in old) who effects w
  pub settled : AllSettled change_in new
