-- The law of last: which report the fold chooses, proved step by step over ascending reports.
use Rattle.std.proofs.Common.{◌≡◌, ℕ, ◌<◌, ◌≤◌, Bool, true, false, cond, List, [], ◌∷◌, Option, Some, None, refl, sym, ap, subst, ◌∙◌, arith}
use Rattle.std.specs.Prelude.{nat_lt, ◌==◌, ◌&&◌, unwrap_or}
use Rattle.std.specs.List.{fold, find}
use Rattle.std.specs.Option.{option_or, option_map}
use Rattle.std.proofs.lemmas.Bool.{and_right, eqb-true, le-ltb, lt-ltb}
use Rattle.sale_matrix.specs.declared.matrix.LastRule.{LastRule}
use Rattle.sale_matrix.specs.declared.matrix.LastRule.TheVariants.{Always, SameMarket, FirstOnly, Never}
use Rattle.scratch_fold.specs.declared.summary.Mark.{Mark}
use Rattle.scratch_fold.specs.declared.summary.Summary.{Summary}
use Rattle.scratch_fold.specs.Fold.{PlacedEffect, mark_of, empty_summary, becomes_last, step, summary_of}
use Rattle.summaries.specs.Last.{is_always, is_same_market, find_last, always, sets, same_after, follow, chosen_last, LawOfLast}
use Rattle.summaries.specs.Lemmas.Ascending.{AllAfter, Ascends, ascends}

-- a choice beside none
pub option_or-none : {X : Type 0} (o : Option X) → option_or o None ≡ o
option_or-none None = refl
option_or-none (Some x) = refl

-- an element that fails the test is skipped
pub find_last-miss : {X : Type 0} (p : X → Bool) (x : X) (xs : List X) → p x ≡ false → find_last p (x ∷ xs) ≡ find_last p xs
find_last-miss p x xs e = ap (λ b. option_or (find_last p xs) (cond b (Some x) None)) e ∙ option_or-none _

-- what is found is above n
pub find_last-after : (p : PlacedEffect → Bool) (n : ℕ) (rs : List PlacedEffect) → AllAfter n rs → (a : PlacedEffect) → find_last p rs ≡ Some a → n < a.0
find_last-after p n [] up a e = absurd (cc)
find_last-after p n (r ∷ rs) up a e =
    elim (find_last p rs) as (λ o. find_last p rs ≡ o → option_or o (cond (p r) (Some r) None) ≡ Some a → n < a.0) [
      | Some b ↦ λ found is. find_last-after p n rs up.1 a (found ∙ is)
      | None ↦ λ _ is. elim (p r) as (λ b. cond b (Some r) None ≡ Some a → n < a.0) [
        | true ↦ λ same. let here : r ≡ a = cc in let above : n < r.0 = up.0 in subst (λ (x : PlacedEffect). n < x.0) here above
        | false ↦ λ no. absurd (cc)
      ] is
    ] refl e

-- a SameMarket report of `who`
abbrev same_of : ℕ → PlacedEffect → Bool
same_of who r = is_same_market r.1.last && (who == r.1.who)

-- a conjunction with what holds
and_true : (b c : Bool) → c ≡ true → (b && c) ≡ b
and_true true c e = e
and_true false c e = refl

-- above n all are after n
same_above : (who n : ℕ) (rs : List PlacedEffect) → AllAfter n rs → find_last (same_after who n) rs ≡ find_last (same_of who) rs
same_above who n [] up = refl
same_above who n (r ∷ rs) up =
    ap (λ o. option_or o (cond (same_after who n r) (Some r) None)) (same_above who n rs up.1)
    ∙ ap (λ b. option_or (find_last (same_of who) rs) (cond b (Some r) None)) (and_true (same_of who r) (nat_lt n r.0) (lt-ltb n r.0 up.0))

-- no report at or below n counts
same_below : (who n : ℕ) (r : PlacedEffect) (rs : List PlacedEffect) → r.0 ≤ n → find_last (same_after who n) (r ∷ rs) ≡ find_last (same_after who n) rs
same_below who n r rs le = find_last-miss (same_after who n) r rs (and_right (same_of who r) (nat_lt n r.0) (le-ltb n r.0 le))

-- the last that `last` becomes over rs, which has no Always report
abbrev follow_mark : List PlacedEffect → Mark → Mark
follow_mark rs m = unwrap_or (option_map mark_of (find_last (same_of m.who) rs)) m

-- the law at any start: the greatest Always place, the present last, or the least setter
abbrev from_start : Option PlacedEffect → Option Mark → List PlacedEffect → Option Mark
from_start (Some a) z rs = option_map mark_of (follow rs (Some a))
from_start None (Some m) rs = Some (follow_mark rs m)
from_start None None rs = option_map mark_of (follow rs (find sets rs))

-- a report from its fields, so that its rule can be told apart
abbrev report_from : LastRule → ℕ → ℕ → ℕ → ℕ → Bool → Bool → PlacedEffect
report_from rule n who price size high_low volume =
    (n, record { who = who; price = price; size = size; high_low = high_low; last = rule; volume = volume })

-- after the report r is the last, and none is Always
from_mark : (o : Option PlacedEffect) (r : PlacedEffect) → Some (unwrap_or (option_map mark_of o) (mark_of r)) ≡ option_map mark_of (option_or o (Some r))
from_mark None r = refl
from_mark (Some x) r = refl

-- r became the last, and what follows follows it
taken : (r : PlacedEffect) (rs : List PlacedEffect) → AllAfter r.0 rs → Some (follow_mark rs (mark_of r)) ≡ option_map mark_of (follow (r ∷ rs) (Some r))
taken r rs up =
    from_mark (find_last (same_of r.1.who) rs) r
    ∙ ap (λ o. option_map mark_of (option_or o (Some r))) (sym (same_below r.1.who r.0 r rs (omega arith) ∙ same_above r.1.who r.0 rs up))

-- the present last m is replaced by r, a SameMarket report of the same participant
joined : (o : Option PlacedEffect) (r : PlacedEffect) (m : Mark)
    → unwrap_or (option_map mark_of o) (mark_of r) ≡ unwrap_or (option_map mark_of (option_or o (Some r))) m
joined None r m = refl
joined (Some x) r m = refl

-- a report that is not a SameMarket report of the present last's participant leaves it
passed : (rs : List PlacedEffect) (r : PlacedEffect) (m : Mark) → same_of m.who r ≡ false → Some (follow_mark rs m) ≡ Some (follow_mark (r ∷ rs) m)
passed rs r m e = ap (λ (o : Option PlacedEffect). Some (unwrap_or (option_map mark_of o) m)) (sym (find_last-miss (same_of m.who) r rs e))

-- r is a SameMarket report of the present last's participant, and replaces it
followed : (rs : List PlacedEffect) (r : PlacedEffect) (m : Mark) → (m.who == r.1.who) ≡ true → same_of m.who r ≡ true
    → Some (follow_mark rs (mark_of r)) ≡ Some (follow_mark (r ∷ rs) m)
followed rs r m e same =
    let who : m.who ≡ r.1.who = eqb-true m.who r.1.who e in
    ap Some (joined (find_last (same_of r.1.who) rs) r m)
    ∙ ap (λ (w : ℕ). Some (unwrap_or (option_map mark_of (option_or (find_last (same_of w) rs) (Some r))) m)) (sym who)
    ∙ ap (λ (b : Bool). Some (unwrap_or (option_map mark_of (option_or (find_last (same_of m.who) rs) (cond b (Some r) None))) m)) (sym same)

-- one report that does not end the search for an Always, by its rule
law_of_last_step : (rule : LastRule) (n who price size : ℕ) (high_low volume : Bool) (z : Option Mark) (rs : List PlacedEffect)
    → AllAfter n rs
    → let r = report_from rule n who price size high_low volume in
    from_start None (cond (becomes_last rule who z) (Some (mark_of r)) z) rs ≡ from_start (cond (is_always rule) (Some r) None) z (r ∷ rs)
law_of_last_step Always n who price size high_low volume z rs up = taken (report_from Always n who price size high_low volume) rs up
law_of_last_step SameMarket n who price size high_low volume None rs up = taken (report_from SameMarket n who price size high_low volume) rs up
law_of_last_step SameMarket n who price size high_low volume (Some m) rs up =
    let r : PlacedEffect = report_from SameMarket n who price size high_low volume in
    elim (m.who == who) as (λ b. (m.who == who) ≡ b → from_start None (cond b (Some (mark_of r)) (Some m)) rs ≡ Some (follow_mark (r ∷ rs) m)) [
      | true ↦ λ e. followed rs r m e e
      | false ↦ λ e. passed rs r m e
    ] refl
law_of_last_step FirstOnly n who price size high_low volume None rs up = taken (report_from FirstOnly n who price size high_low volume) rs up
law_of_last_step FirstOnly n who price size high_low volume (Some m) rs up = passed rs (report_from FirstOnly n who price size high_low volume) m refl
law_of_last_step Never n who price size high_low volume None rs up =
    let r : PlacedEffect = report_from Never n who price size high_low volume in
    elim (find sets rs) as (λ o. option_map mark_of (follow rs o) ≡ option_map mark_of (follow (r ∷ rs) o)) [
      | None ↦ refl
      | Some b ↦ ap (λ (o : Option PlacedEffect). option_map mark_of (option_or o (Some b))) (sym (find_last-miss (same_after b.1.who b.0) r rs refl))
    ]
law_of_last_step Never n who price size high_low volume (Some m) rs up = passed rs (report_from Never n who price size high_low volume) m refl

-- one step of the fold keeps what the law says
law_of_last_more : (z : Option Mark) (r : PlacedEffect) (rs : List PlacedEffect) → AllAfter r.0 rs
    → from_start (find_last always rs) (cond (becomes_last r.1.last r.1.who z) (Some (mark_of r)) z) rs ≡ from_start (find_last always (r ∷ rs)) z (r ∷ rs)
law_of_last_more z r rs up =
    elim (find_last always rs) as (λ o. find_last always rs ≡ o
    → from_start o (cond (becomes_last r.1.last r.1.who z) (Some (mark_of r)) z) rs ≡ from_start (option_or o (cond (always r) (Some r) None)) z (r ∷ rs)) [
      | Some a ↦ λ e. let above : r.0 < a.0 = find_last-after always r.0 rs up a e in
          ap (λ (o : Option PlacedEffect). option_map mark_of (option_or o (Some a))) (sym (same_below a.1.who a.0 r rs (omega arith)))
      | None ↦ λ _. law_of_last_step r.1.last r.0 r.1.who r.1.price r.1.size r.1.high_low r.1.volume z rs up
    ] refl

-- the law from any start, by recursion over the reports
law_of_last_from : (z : Summary) (rs : List PlacedEffect) → Ascends rs → (fold step z rs).last ≡ from_start (find_last always rs) z.last rs
law_of_last_from z [] up = elim z.last as (λ o. o ≡ from_start None o []) [ None ↦ refl | Some m ↦ refl ]
law_of_last_from z (r ∷ rs) up = law_of_last_from (step z r) rs up.1 ∙ law_of_last_more z.last r rs up.0

-- the law of reports that ascend
pub law_of_last : (rs : List PlacedEffect) → Ascends rs → (summary_of rs).last ≡ chosen_last rs
law_of_last rs up =
    law_of_last_from empty_summary rs up
    ∙ elim (find_last always rs) as (λ o. from_start o None rs ≡ option_map mark_of (follow rs (option_or o (find sets rs)))) [ None ↦ refl | Some a ↦ refl ]

-- the same of reports whose places strictly increase
pub law-holds : LawOfLast
law-holds rs up = law_of_last rs (ascends rs up)
