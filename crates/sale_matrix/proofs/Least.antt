-- Proofs that joining cells pair by pair yields the least cell of each column, by the rank of each rule.
use Rattle.std.proofs.Common.{◌≡◌, ℕ, ◌==◌, Bool, true, false, ◌&&◌, if◌then◌else◌, List, [], ◌∷◌, Option, Some, None, unwrap_or, is_some, map, fold}
use Rattle.std.proofs.Common.{slice_index, min, refl, sym, ap, ◌∙◌}
use Rattle.std.specs.Option.{option_map}
use Rattle.sale_matrix.specs.declared.matrix.Cells.{Cells}
use Rattle.sale_matrix.specs.declared.matrix.Matrix.{Matrix}
use Rattle.sale_matrix.specs.declared.matrix.LastRule.{LastRule}
use Rattle.sale_matrix.specs.declared.matrix.LastRule.TheVariants.{Always, SameMarket, FirstOnly, Never}
use Rattle.sale_matrix.specs.Matrix.{rank_of, rule_of, is_yes, weaker, cells_in, cells_by, cells_of, cells_of_row, least_cells, first_rows, second_rows}
use Rattle.sale_matrix.specs.Matrix.{third_rows, fourth_rows}

-- how strong a rule is, from 0 for `Never` up to 3 for `Always`
abbrev pub rank : LastRule → ℕ
rank Never = 0
rank FirstOnly = 1
rank SameMarket = 2
rank Always = 3

-- the lesser of two ranks is that of the weaker rule
pub rank_weaker : (a b : LastRule) → min (rank a) (rank b) ≡ rank (weaker a b)
rank_weaker Never Never = refl
rank_weaker Never FirstOnly = refl
rank_weaker Never SameMarket = refl
rank_weaker Never Always = refl
rank_weaker FirstOnly Never = refl
rank_weaker FirstOnly FirstOnly = refl
rank_weaker FirstOnly SameMarket = refl
rank_weaker FirstOnly Always = refl
rank_weaker SameMarket Never = refl
rank_weaker SameMarket FirstOnly = refl
rank_weaker SameMarket SameMarket = refl
rank_weaker SameMarket Always = refl
rank_weaker Always Never = refl
rank_weaker Always FirstOnly = refl
rank_weaker Always SameMarket = refl
rank_weaker Always Always = refl

-- the rule that has the rank of a cell's letter
letter : (cell : ℕ) → (a : LastRule) × (rank_of cell ≡ rank a)
letter cell = by (cell == 78) (cell == 70) (cell == 83)
  where
    by : (p q r : Bool) → (a : LastRule) × ((if p then 0 else (if q then 1 else (if r then 2 else 3))) ≡ rank a)
    by true q r = (Never, refl)
    by false true r = (FirstOnly, refl)
    by false false true = (SameMarket, refl)
    by false false false = (Always, refl)

-- the rule of a rule's rank is that rule
rule_of-rank : (a : LastRule) → rule_of (rank a) ≡ a
rule_of-rank Never = refl
rule_of-rank FirstOnly = refl
rule_of-rank SameMarket = refl
rule_of-rank Always = refl

-- the weaker of two rules is a yes exactly if both are
is_yes-weaker : (a b : LastRule) → is_yes (rank (weaker a b)) ≡ (is_yes (rank a) && is_yes (rank b))
is_yes-weaker Never b = refl
is_yes-weaker FirstOnly Never = refl
is_yes-weaker FirstOnly FirstOnly = refl
is_yes-weaker FirstOnly SameMarket = refl
is_yes-weaker FirstOnly Always = refl
is_yes-weaker SameMarket Never = refl
is_yes-weaker SameMarket FirstOnly = refl
is_yes-weaker SameMarket SameMarket = refl
is_yes-weaker SameMarket Always = refl
is_yes-weaker Always b = refl

-- the least of four ranks
abbrev least4 : ℕ → ℕ → ℕ → ℕ → ℕ
least4 w x y z = min (min (min (min 3 w) x) y) z

-- the least of four ranks is that of the weakest of the four rules
least4-rank : (a b c d : LastRule) → least4 (rank a) (rank b) (rank c) (rank d) ≡ rank (weaker (weaker (weaker a b) c) d)
least4-rank a b c d =
    ap (λ n. min (min (min n (rank b)) (rank c)) (rank d)) (rank_weaker Always a)
    ∙ ap (λ n. min (min n (rank c)) (rank d)) (rank_weaker a b)
    ∙ ap (λ n. min n (rank d)) (rank_weaker (weaker a b) c)
    ∙ rank_weaker (weaker (weaker a b) c) d

module _ (w x y z : ℕ) where
  -- the rule of the least rank of four cells is the weakest of their four rules
  least_rule : rule_of (least4 (rank_of w) (rank_of x) (rank_of y) (rank_of z))
      ≡ weaker (weaker (weaker (rule_of (rank_of w)) (rule_of (rank_of x))) (rule_of (rank_of y))) (rule_of (rank_of z))
  least_rule = of (letter w) (letter x) (letter y) (letter z)
    where
      of : {w x y z : ℕ} → ((a : LastRule) × (w ≡ rank a)) → ((a : LastRule) × (x ≡ rank a)) → ((a : LastRule) × (y ≡ rank a)) → ((a : LastRule) × (z ≡ rank a))
          → rule_of (least4 w x y z) ≡ weaker (weaker (weaker (rule_of w) (rule_of x)) (rule_of y)) (rule_of z)
      of (a, p) (b, q) (c, r) (d, s) =
          (λ j. rule_of (least4 (p j) (q j) (r j) (s j)))
          ∙ ap rule_of (least4-rank a b c d) ∙ rule_of-rank (weaker (weaker (weaker a b) c) d)
          ∙ sym (λ j. weaker (weaker (weaker ((ap rule_of p ∙ rule_of-rank a) j) ((ap rule_of q ∙ rule_of-rank b) j)) ((ap rule_of r ∙ rule_of-rank c) j))
          ((ap rule_of s ∙ rule_of-rank d) j))

  -- the least rank of four cells is a yes exactly if all four are
  least_flag : is_yes (least4 (rank_of w) (rank_of x) (rank_of y) (rank_of z))
      ≡ (((is_yes (rank_of w) && is_yes (rank_of x)) && is_yes (rank_of y)) && is_yes (rank_of z))
  least_flag = of (letter w) (letter x) (letter y) (letter z)
    where
      of : {w x y z : ℕ} → ((a : LastRule) × (w ≡ rank a)) → ((a : LastRule) × (x ≡ rank a)) → ((a : LastRule) × (y ≡ rank a)) → ((a : LastRule) × (z ≡ rank a))
          → is_yes (least4 w x y z) ≡ (((is_yes w && is_yes x) && is_yes y) && is_yes z)
      of (a, p) (b, q) (c, r) (d, s) =
          (λ j. is_yes (least4 (p j) (q j) (r j) (s j)))
          ∙ ap is_yes (least4-rank a b c d)
          ∙ is_yes-weaker (weaker (weaker a b) c) d
          ∙ ap (λ v. v && is_yes (rank d)) (is_yes-weaker (weaker a b) c)
          ∙ ap (λ v. (v && is_yes (rank c)) && is_yes (rank d)) (is_yes-weaker a b)
          ∙ sym (λ j. (((is_yes (p j) && is_yes (q j)) && is_yes (r j)) && is_yes (s j)))

-- the rows of four codes, joined one after another, are the least in each column
pub joined_cells : (matrix : Matrix) (codes : List ℕ) (a b c d : Cells)
    → Some a ≡ option_map cells_of_row (cells_in first_rows (slice_index codes 0))
    → Some b ≡ option_map cells_of_row (cells_in second_rows (slice_index codes 1))
    → Some c ≡ option_map cells_of_row (cells_in third_rows (slice_index codes 2))
    → Some d ≡ option_map cells_of_row (cells_in (fourth_rows matrix) (slice_index codes 3))
    → least_cells (least_cells (least_cells a b) c) d ≡ cells_of matrix codes
unfolding cells_of
joined_cells matrix codes a b c d = of (cells_in first_rows (slice_index codes 0)) (cells_in second_rows (slice_index codes 1))
    (cells_in third_rows (slice_index codes 2)) (cells_in (fourth_rows matrix) (slice_index codes 3))
  where
    of : (o p q r : Option (List ℕ)) → Some a ≡ option_map cells_of_row o → Some b ≡ option_map cells_of_row p → Some c ≡ option_map cells_of_row q
        → Some d ≡ option_map cells_of_row r
        → least_cells (least_cells (least_cells a b) c) d ≡ cells_by
        (λ column. fold min 3 (map (λ row. rank_of (slice_index (unwrap_or row []) column)) (o ∷ p ∷ q ∷ r ∷ [])))
    of (Some w) (Some x) (Some y) (Some z) e f g h =
        let ea : a ≡ cells_of_row w = cc in
        let eb : b ≡ cells_of_row x = cc in
        let ec : c ≡ cells_of_row y = cc in
        let ed : d ≡ cells_of_row z = cc in
        (λ j. least_cells (least_cells (least_cells (ea j) (eb j)) (ec j)) (ed j))
        ∙ (λ j. record {
          ch = sym (least_flag (slice_index w 0) (slice_index x 0) (slice_index y 0) (slice_index z 0)) j;
          cl = sym (least_rule (slice_index w 1) (slice_index x 1) (slice_index y 1) (slice_index z 1)) j;
          ph = sym (least_flag (slice_index w 2) (slice_index x 2) (slice_index y 2) (slice_index z 2)) j;
          pl = sym (least_rule (slice_index w 3) (slice_index x 3) (slice_index y 3) (slice_index z 3)) j;
          volume = sym (least_flag (slice_index w 4) (slice_index x 4) (slice_index y 4) (slice_index z 4)) j;
        })
    of None p q r e f g h = cc
    of (Some w) None q r e f g h = cc
    of (Some w) (Some x) None r e f g h = cc
    of (Some w) (Some x) (Some y) None e f g h = cc

-- a code that has cells has a row
pub row_found : (o : Option (List ℕ)) (cells : Cells) → Some cells ≡ option_map cells_of_row o → is_some o ≡ true
row_found None cells h = cc
row_found (Some row) cells h = refl

-- a conjunction of four holds if each holds
pub and_four : (p q r s : Bool) → p ≡ true → q ≡ true → r ≡ true → s ≡ true → (p && (q && (r && (s && true)))) ≡ true
and_four p q r s hp hq hr hs = λ j. hp j && (hq j && (hr j && (hs j && true)))
