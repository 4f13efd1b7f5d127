-- The laws of the fold for open, high, low, volume and trades.
use Rattle.std.proofs.Common.{◌≡◌, ℕ, ◌+◌, ◌<◌, Bool, true, false, cond, List, [], ◌∷◌, Option, Some, None, refl, sym, ap, ◌∙◌, arith, length}
use Rattle.std.specs.Prelude.{nat_lt, ◌&&◌, is_none}
use Rattle.std.specs.List as list
use Rattle.std.specs.List.{fold, sum_by}
use Rattle.std.specs.Option.{option_or, option_map}
use Rattle.std.specs.Ordering.{nat_cmp, eq_by_cmp}
use Rattle.sale_matrix.specs.declared.matrix.LastRule.{LastRule}
use Rattle.sale_matrix.specs.declared.matrix.LastRule.TheVariants.{Always, SameMarket, FirstOnly, Never}
use Rattle.scratch_fold.specs.declared.summary.Effect.{Effect}
use Rattle.scratch_fold.specs.declared.summary.Mark.{Mark}
use Rattle.scratch_fold.specs.declared.summary.Summary.{Summary}
use Rattle.scratch_fold.specs.Fold.{PlacedEffect, mark_of, empty_summary, becomes_last, step, summary_of, is_higher, is_lower}
use Rattle.summaries.specs.Indexed.{counted_size}
use Rattle.summaries.specs.Last.{is_setter, sets}
use Rattle.summaries.specs.Lemmas.Ascending.{Ascends}
use Rattle.summaries.specs.Lemmas.At.{at, at-after, at-later, at-head}
use Rattle.tape_types.specs.Lemmas.NumberMaps.{same_key}

-- the report that sets the open
abbrev pub chosen_opening : List PlacedEffect → Option Mark
chosen_opening rs = option_map mark_of (list.find sets rs)

-- whether the price beats the mark's, by the test `beats old new`
abbrev pub is_better : (ℕ → ℕ → Bool) → ℕ → Option Mark → Bool
is_better beats price None = true
is_better beats price (Some m) = beats m.price price

-- the new price is above the old one
abbrev pub is_above : ℕ → ℕ → Bool
is_above old new = nat_lt old new

-- the new price is below the old one
abbrev pub is_below : ℕ → ℕ → Bool
is_below old new = nat_lt new old

-- the fold's test of the high is this one
higher-same : (price : ℕ) (z : Option Mark) → is_higher price z ≡ is_better is_above price z
higher-same price None = refl
higher-same price (Some m) = refl

-- the fold's test of the low is this one
lower-same : (price : ℕ) (z : Option Mark) → is_lower price z ≡ is_better is_below price z
lower-same price None = refl
lower-same price (Some m) = refl

-- the open from any start: it stays once there is a last
abbrev opens : Option Mark → Option Mark → Option PlacedEffect → Option Mark
opens (Some m) o found = o
opens None o found = option_or (option_map mark_of found) o

-- an open stays if there is a last
opens-kept : (b : Bool) (l m : Mark) (o : Option Mark) (found : Option PlacedEffect) → opens (cond b (Some m) (Some l)) (cond (b && false) (Some m) o) found ≡ o
opens-kept true l m o found = refl
opens-kept false l m o found = refl

-- one step of the fold keeps what the law of the open says
law_of_opening_more : (rule : LastRule) (r : PlacedEffect) (z o : Option Mark) (found : Option PlacedEffect)
    → opens (cond (becomes_last rule r.1.who z) (Some (mark_of r)) z) (cond (becomes_last rule r.1.who z && is_none z) (Some (mark_of r)) o) found
    ≡ opens z o (cond (is_setter rule) (Some r) found)
law_of_opening_more rule r (Some l) o found = opens-kept (becomes_last rule r.1.who (Some l)) l (mark_of r) o found
law_of_opening_more Always r None o found = refl
law_of_opening_more SameMarket r None o found = refl
law_of_opening_more FirstOnly r None o found = refl
law_of_opening_more Never r None o found = refl

-- the best price by `beats old new`, the earliest place among equals
module _ (beats : ℕ → ℕ → Bool) where
  -- the mark of the best price of the reports, from a start
  abbrev pub best : Option Mark → List PlacedEffect → Option Mark
  best z [] = z
  best z (r ∷ rs) = best (cond (r.1.high_low && is_better beats r.1.price z) (Some (mark_of r)) z) rs

  -- a mark that no price beats stays
  pub best_stays : (m : Mark) (rs : List PlacedEffect) → Ascends rs
      → ((q : ℕ) (x : Effect) → at rs q ≡ Some x → x.high_low ≡ true → beats m.price x.price ≡ false) → best (Some m) rs ≡ Some m
  best_stays m [] up no_better = refl
  best_stays m (r ∷ rs) up no_better =
      let stays : (r.1.high_low && beats m.price r.1.price) ≡ false =
      elim r.1.high_low as (λ b. r.1.high_low ≡ b → (b && beats m.price r.1.price) ≡ false) [
        | true ↦ λ on. no_better r.0 r.1 (at-head r rs) on
        | false ↦ λ _. refl
      ] refl in
      ap (λ (b : Bool). best (cond b (Some (mark_of r)) (Some m)) rs) stays
      ∙ best_stays m rs up.1 (λ q x e on. no_better q x (at-later r rs up.0 q x e) on)

  -- if no report may become it, there is none
  pub best_none : (rs : List PlacedEffect) → Ascends rs → ((q : ℕ) (x : Effect) → at rs q ≡ Some x → x.high_low ≡ false) → best None rs ≡ None
  best_none [] up off = refl
  best_none (r ∷ rs) up off =
      ap (λ (b : Bool). best (cond (b && true) (Some (mark_of r)) None) rs) (off r.0 r.1 (at-head r rs))
      ∙ best_none rs up.1 (λ q x e. off q x (at-later r rs up.0 q x e))

  -- the report that beats those before it and that none beats
  pub best_is : (rs : List PlacedEffect) (z : Option Mark) → Ascends rs → (n : ℕ) (e : Effect) → at rs n ≡ Some e → e.high_low ≡ true
      → is_better beats e.price z ≡ true
      → ((q : ℕ) (x : Effect) → at rs q ≡ Some x → x.high_low ≡ true → q < n → beats x.price e.price ≡ true)
      → ((q : ℕ) (x : Effect) → at rs q ≡ Some x → x.high_low ≡ true → beats e.price x.price ≡ false)
      → best z rs ≡ Some (mark_of (n, e))
  best_is [] z up n e there on better before no_better = absurd (cc)
  best_is (r ∷ rs) z up n e there on better before no_better =
      elim (eq_by_cmp nat_cmp n r.0) as (λ b. eq_by_cmp nat_cmp n r.0 ≡ b → cond b (Some r.1) (at rs n) ≡ Some e → best z (r ∷ rs) ≡ Some (mark_of (n, e))) [
        | true ↦ λ same is.
            let here : n ≡ r.0 = same_key n r.0 same in
            let value : r.1 ≡ e = cc in
            let itself : ◌≡◌ {A = PlacedEffect} r (n, e) = λ i. (sym here i, value i) in
            let test : (r.1.high_low && is_better beats r.1.price z) ≡ true =
            ap (λ (x : Effect). x.high_low && is_better beats x.price z) value ∙ ap (λ (b : Bool). b && is_better beats e.price z) on ∙ better in
            ap (λ (b : Bool). best (cond b (Some (mark_of r)) z) rs) test
            ∙ ap (λ (x : PlacedEffect). best (Some (mark_of x)) rs) itself
            ∙ best_stays (mark_of (n, e)) rs up.1 (λ q x at_q. no_better q x (at-later r rs up.0 q x at_q))
        | false ↦ λ _ is.
            let above : r.0 < n = at-after r.0 rs up.0 n e is in
            let still : is_better beats e.price (cond (r.1.high_low && is_better beats r.1.price z) (Some (mark_of r)) z) ≡ true =
            elim r.1.high_low as (λ b. r.1.high_low ≡ b → is_better beats e.price (cond (b && is_better beats r.1.price z) (Some (mark_of r)) z) ≡ true) [
              | true ↦ λ r_on. elim (is_better beats r.1.price z) as (λ b. is_better beats e.price (cond b (Some (mark_of r)) z) ≡ true) [
                | true ↦ before r.0 r.1 (at-head r rs) r_on above
                | false ↦ better
              ]
              | false ↦ λ _. better
            ] refl in
            best_is rs _ up.1 n e is on still (λ q x at_q. before q x (at-later r rs up.0 q x at_q)) (λ q x at_q. no_better q x (at-later r rs up.0 q x at_q))
      ] refl there

-- the high is the best by is_above
pub high-best : (z : Summary) (rs : List PlacedEffect) → (fold step z rs).high ≡ best is_above z.high rs
high-best z [] = refl
high-best z (r ∷ rs) = high-best (step z r) rs
    ∙ ap (λ (b : Bool). best is_above (cond (r.1.high_low && b) (Some (mark_of r)) z.high) rs) (higher-same r.1.price z.high)

-- the low is the best by is_below
pub low-best : (z : Summary) (rs : List PlacedEffect) → (fold step z rs).low ≡ best is_below z.low rs
low-best z [] = refl
low-best z (r ∷ rs) = low-best (step z r) rs
    ∙ ap (λ (b : Bool). best is_below (cond (r.1.high_low && b) (Some (mark_of r)) z.low) rs) (lower-same r.1.price z.low)

-- the volume from any start is a running sum
volume-from : (z : Summary) (rs : List PlacedEffect) → (fold step z rs).volume ≡ fold (λ a r. a + counted_size r) z.volume rs
volume-from z [] = refl
volume-from z (r ∷ rs) = volume-from (step z r) rs

-- the trades from any start count the reports
pub trades-from : (z : Summary) (rs : List PlacedEffect) → (fold step z rs).trades ≡ z.trades + length rs
trades-from z [] = omega arith
trades-from z (r ∷ rs) = let more : (fold step (step z r) rs).trades ≡ (z.trades + 1) + length rs = trades-from (step z r) rs in omega arith

-- the volume is the sum of the sizes that count
pub law_of_volume : (rs : List PlacedEffect) → (summary_of rs).volume ≡ sum_by counted_size rs
law_of_volume rs = volume-from empty_summary rs

-- the number of reports
pub law_of_trades : (rs : List PlacedEffect) → (summary_of rs).trades ≡ length rs
law_of_trades rs = let all : (summary_of rs).trades ≡ 0 + length rs = trades-from empty_summary rs in omega arith

-- the open from any start
opening-from : (z : Summary) (rs : List PlacedEffect) → (fold step z rs).opening ≡ opens z.last z.opening (list.find sets rs)
opening-from z [] = elim z.last as (λ l. z.opening ≡ opens l z.opening None) [ None ↦ refl | Some m ↦ refl ]
opening-from z (r ∷ rs) = opening-from (step z r) rs ∙ law_of_opening_more r.1.last r z.last z.opening (list.find sets rs)

-- open: the least setter, whatever its rule
pub law_of_opening : (rs : List PlacedEffect) → (summary_of rs).opening ≡ chosen_opening rs
law_of_opening rs = opening-from empty_summary rs
    ∙ elim (list.find sets rs) as (λ o. option_or (option_map mark_of o) None ≡ option_map mark_of o) [ None ↦ refl | Some r ↦ refl ]
