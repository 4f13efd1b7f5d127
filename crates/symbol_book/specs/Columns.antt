-- The standing reports as one map of trades, seen in the consolidated and in the participant columns.
use Rattle.std.specs.Prelude.{ℕ, Bool, cond, ◌==◌, List, map, Option, Some, None}
use Rattle.std.specs.List.{filter}
use Rattle.std.specs.Ordering.{nat_cmp}
use Rattle.std.specs.FinMap as map
use Rattle.sale_matrix.specs.Matrix.{cells_of}
use Rattle.sale_matrix.specs.declared.content.Content.{Content}
use Rattle.sale_matrix.specs.declared.matrix.Matrix.{Matrix}
use Rattle.scratch_fold.specs.declared.summary.Effect.{Effect}
use Rattle.scratch_fold.specs.declared.summary.Summary.{Summary}
use Rattle.scratch_fold.specs.Columns.{consolidated_effect, participant_effect}
use Rattle.scratch_fold.specs.Fold.{summary_of}
use Rattle.symbol_book.specs.declared.trade.Trade.{Trade}

-- the content of a report by its parts, as a call has them
abbrev pub content_of : ℕ → ℕ → List ℕ → Content
content_of price size condition = record { price = price; size = size; condition = condition }

-- the trade of a report, with the cells of its sale condition in the matrix
abbrev pub reported_trade : Matrix → ℕ → Content → Trade
reported_trade matrix who content =
    record { who = who; price = content.price; size = content.size; cells = cells_of matrix content.condition }

-- what it does to the consolidated summary
abbrev pub consolidated_effect_of : Trade → Effect
consolidated_effect_of t = consolidated_effect t.who t.price t.size t.cells

-- what it does to its participant's own summary
abbrev pub own_effect_of : Trade → Effect
own_effect_of t = participant_effect t.who t.price t.size t.cells

-- the standing trades, by place
abbrev pub Trades : Type 0
Trades = map.FinMap nat_cmp Trade

-- whether a trade is the participant's
abbrev pub is_trade_of : ℕ → Trade → Bool
is_trade_of who t = t.who == who

-- the fold of the trades by rising place, in the consolidated columns
abbrev pub consolidated_summary : Trades → Summary
consolidated_summary m = summary_of (map (λ r. (r.0, consolidated_effect_of r.1)) (map.entries m))

-- the fold of one participant's trades by rising place, in the participant columns
abbrev pub own_summary : Trades → ℕ → Summary
own_summary m who = summary_of (map (λ r. (r.0, own_effect_of r.1)) (filter (λ r. is_trade_of who r.1) (map.entries m)))

-- the effect in the participant's own store, if the trade is the participant's
abbrev pub own_effect_at : ℕ → Option Trade → Option Effect
own_effect_at who None = None
own_effect_at who (Some t) = cond (is_trade_of who t) (Some (own_effect_of t)) None

-- the map with another content for this trade, if there is one
abbrev pub with_content : Matrix → Trades → ℕ → Option Trade → Content → Trades
with_content matrix m place None content = m
with_content matrix m place (Some t) content = map.insert m place (reported_trade matrix t.who content)

-- the map with another content at a place that has a trade
abbrev pub trades_with_content : Matrix → Trades → ℕ → Content → Trades
trades_with_content matrix m place content = with_content matrix m place (map.get m place) content
