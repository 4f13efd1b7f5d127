-- The entries of a map of trades, and of the stores that hold it.
use Rattle.std.proofs.Common.{◌≡◌, ℕ, Bool, true, false, cond, T, List, [], ◌∷◌, map, filter, Option, Some, None, refl, sym, ap, ◌∙◌, arith}
use Rattle.std.specs.Option.{option_map}
use Rattle.std.specs.Ordering.{nat_cmp, eq_by_cmp, is_lt}
use Rattle.std.specs.Cmp.{nat_cmp_total}
use Rattle.std.specs.FinMap as map
use Rattle.std.specs.FinMap.{nat_cmp-IsAntisymmetric, FinMap}
use Rattle.std.specs.FinMap.Entries.{is_sorted, below_all}
use Rattle.std.proofs.lemmas.Bool.Decides.{nat_tests}
use Rattle.std.proofs.lemmas.Map.Entries.{option_filter}
use Rattle.tape_types.specs.Lemmas.NumberMaps.{same_key}
use Rattle.tape_types.specs.Lemmas.RisingEntries.{and_left, and_rest, and_both}
use Rattle.scratch_fold.specs.Fold.{summary_of, empty_summary}
use Rattle.summaries.specs.Effects.{Effects, map_summary}
use Rattle.symbol_book.specs.declared.trade.Trade.{Trade}
use Rattle.symbol_book.specs.Columns.{Trades, consolidated_effect_of, own_effect_of, own_effect_at, is_trade_of, consolidated_summary, own_summary}
use Rattle.symbol_book.specs.Stores.{HoldTrades}
use Rattle.symbol_book.specs.Lemmas.HeldTrades.{find-keyed}

-- a map has the entries of a sorted list that finds the same values
pub entries-is : {X : Type 0} (m : FinMap nat_cmp X) (es : List (ℕ × X)) → T (is_sorted nat_cmp es) → ((q : ℕ) → map.get m q ≡ map.find nat_cmp q es)
    → map.entries m ≡ es
entries-is m es h is =
    ap map.entries (map.same_map nat_cmp_total nat_cmp-IsAntisymmetric m (map.from_sorted es) (λ q. is q ∙ sym (map.get-from_sorted nat_cmp es q h)))
    ∙ map.entries-from_sorted nat_cmp es h

module _ {X Y : Type 0} (f : X → Y) where
  -- a key stays below all others if values change
  below-map : (x : ℕ) (es : List (ℕ × X)) → T (below_all nat_cmp x es) → T (below_all nat_cmp x (map (λ e. (e.0, f e.1)) es))
  below-map x [] h = tt
  below-map x (e ∷ es) h = and_both (is_lt (nat_cmp x e.0)) _ (and_left _ _ h) (below-map x es (and_rest (is_lt (nat_cmp x e.0)) _ h))

  -- the keys still rise if values change
  pub is_sorted-map : (es : List (ℕ × X)) → T (is_sorted nat_cmp es) → T (is_sorted nat_cmp (map (λ e. (e.0, f e.1)) es))
  is_sorted-map [] h = tt
  is_sorted-map (e ∷ es) h = and_both (below_all nat_cmp e.0 (map (λ x. (x.0, f x.1)) es)) _ (below-map e.0 es (and_left _ _ h))
      (is_sorted-map es (and_rest (below_all nat_cmp e.0 es) _ h))

module _ {X : Type 0} (p : X → Bool) where
  -- a key stays below those that pass
  below-filter : (x : ℕ) (es : List (ℕ × X)) → T (below_all nat_cmp x es) → T (below_all nat_cmp x (filter (λ e. p e.1) es))
  below-filter x [] h = tt
  below-filter x (e ∷ es) h =
      let rest = below-filter x es (and_rest (is_lt (nat_cmp x e.0)) _ h) in
      elim (p e.1) as (λ b. T (below_all nat_cmp x (cond b (e ∷ filter (λ y. p y.1) es) (filter (λ y. p y.1) es)))) [
        | true ↦
            and_both (is_lt (nat_cmp x e.0)) _ (and_left _ _ h) rest
        | false ↦ rest
      ]

  -- the keys of those that pass still rise
  pub is_sorted-filter : (es : List (ℕ × X)) → T (is_sorted nat_cmp es) → T (is_sorted nat_cmp (filter (λ e. p e.1) es))
  is_sorted-filter [] h = tt
  is_sorted-filter (e ∷ es) h =
      let rest = is_sorted-filter es (and_rest (below_all nat_cmp e.0 es) _ h) in
      elim (p e.1) as (λ b. T (is_sorted nat_cmp (cond b (e ∷ filter (λ y. p y.1) es) (filter (λ y. p y.1) es)))) [
        | true ↦ and_both (below_all nat_cmp e.0 (filter (λ y. p y.1) es)) _ (below-filter e.0 es (and_left _ _ h)) rest
        | false ↦ rest
      ]

  -- a lesser key is a different one
  lt_apart : (x y : ℕ) → T (is_lt (nat_cmp x y)) → eq_by_cmp nat_cmp x y ≡ false
  lt_apart x y h = grind (arith, nat_tests)

  -- a key below all others is not found
  find-below : (q : ℕ) (es : List (ℕ × X)) → T (below_all nat_cmp q es) → map.find nat_cmp q es ≡ None
  find-below q [] h = refl
  find-below q (e ∷ es) h = ap (λ (b : Bool). cond b (Some e.1) (map.find nat_cmp q es)) (lt_apart q e.0 (and_left _ _ h))
      ∙ find-below q es (and_rest (is_lt (nat_cmp q e.0)) _ h)

  -- what is found among those that pass
  pub find-filter : (q : ℕ) (es : List (ℕ × X)) → T (is_sorted nat_cmp es)
      → map.find nat_cmp q (filter (λ e. p e.1) es) ≡ option_filter p (map.find nat_cmp q es)
  find-filter q [] h = refl
  find-filter q (e ∷ es) h =
      let rest = find-filter q es (and_rest (below_all nat_cmp e.0 es) _ h) in
      elim (eq_by_cmp nat_cmp q e.0) as (λ t. eq_by_cmp nat_cmp q e.0 ≡ t
      → map.find nat_cmp q (cond (p e.1) (e ∷ filter (λ y. p y.1) es) (filter (λ y. p y.1) es)) ≡ option_filter p
      (cond t (Some e.1) (map.find nat_cmp q es))) [
        | true ↦ λ t. elim (p e.1) as (λ b. map.find nat_cmp q (cond b (e ∷ filter (λ y. p y.1) es) (filter (λ y. p y.1) es)) ≡ cond b (Some e.1) None) [
          | true ↦ ap (λ (b : Bool). cond b (Some e.1) (map.find nat_cmp q (filter (λ y. p y.1) es))) t
          | false ↦ rest ∙ ap (option_filter p) (ap (λ x. map.find nat_cmp x es) (same_key q e.0 t) ∙ find-below e.0 es (and_left _ _ h))
        ]
        | false ↦ λ t. elim (p e.1) as
            (λ b. map.find nat_cmp q (cond b (e ∷ filter (λ y. p y.1) es) (filter (λ y. p y.1) es)) ≡ option_filter p (map.find nat_cmp q es)) [
              | true ↦ ap (λ (b : Bool). cond b (Some e.1) (map.find nat_cmp q (filter (λ y. p y.1) es))) t ∙ rest
              | false ↦ rest
            ]
      ] refl

-- the summary of the consolidated store is that of the trades
pub consolidated-is : (m : Trades) (all : Effects) (of_who : ℕ → Effects) → HoldTrades m all of_who → map_summary all ≡ consolidated_summary m
consolidated-is m all of_who h = ap summary_of (entries-is all (map (λ r. (r.0, consolidated_effect_of r.1)) (map.entries m))
    (is_sorted-map consolidated_effect_of (map.entries m) (map.entries_sorted m))
    (λ q. h.all_are q ∙ ap (option_map consolidated_effect_of) (map.get-entries m q) ∙ sym (find-keyed (λ _ t. consolidated_effect_of t) q (map.entries m))))

-- the summary of a participant's own store is that of its trades
pub own-is : (m : Trades) (all : Effects) (of_who : ℕ → Effects) (who : ℕ) → HoldTrades m all of_who → map_summary (of_who who) ≡ own_summary m who
own-is m all of_who who h = ap summary_of (entries-is (of_who who) (map (λ r. (r.0, own_effect_of r.1)) (filter (λ r. is_trade_of who r.1) (map.entries m)))
    (is_sorted-map own_effect_of (filter (λ r. is_trade_of who r.1) (map.entries m))
    (is_sorted-filter (is_trade_of who) (map.entries m) (map.entries_sorted m)))
    (λ q. h.own_are who q ∙ as_filter (map.get m q)
    ∙ ap (λ o. option_map own_effect_of (option_filter (is_trade_of who) o)) (map.get-entries m q)
    ∙ ap (option_map own_effect_of) (sym (find-filter (is_trade_of who) q (map.entries m) (map.entries_sorted m)))
    ∙ sym (find-keyed (λ _ t. own_effect_of t) q (filter (λ r. is_trade_of who r.1) (map.entries m)))))
  where
    as_filter : (o : Option Trade) → own_effect_at who o ≡ option_map own_effect_of (option_filter (is_trade_of who) o)
    as_filter None = refl
    as_filter (Some t) = elim (is_trade_of who t) as (λ b. cond b (Some (own_effect_of t)) None ≡ option_map own_effect_of (cond b (Some t) None)) [
      | true ↦
          refl
      | false ↦ refl
    ]

-- the summary of no effect
pub summary-none : map_summary map.empty ≡ empty_summary
summary-none = ap summary_of (entries-is map.empty [] tt (map.get-empty nat_cmp))
