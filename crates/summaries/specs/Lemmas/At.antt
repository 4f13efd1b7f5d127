-- A list of effects by rising place, read as a map: what `find` and `find_last` choose, from the effect at each place.
use Rattle.std.proofs.Common.{◌≡◌, ℕ, ◌<◌, ◌≤◌, Bool, true, false, cond, List, [], ◌∷◌, Option, Some, None, refl, sym, ap, ◌∙◌, arith}
use Rattle.std.specs.List as list
use Rattle.std.specs.Option.{option_or}
use Rattle.std.specs.Ordering.{nat_cmp, eq_by_cmp}
use Rattle.std.specs.FinMap.{find}
use Rattle.tape_types.specs.Lemmas.NumberMaps.{same_key, key_itself, other_key}
use Rattle.scratch_fold.specs.declared.summary.Effect.{Effect}
use Rattle.scratch_fold.specs.Fold.{PlacedEffect}
use Rattle.summaries.specs.Last.{find_last}
use Rattle.summaries.specs.Lemmas.Ascending.{AllAfter, Ascends}
use Rattle.summaries.specs.Lemmas.LastLaw.{find_last-miss}

-- the effect at a place
abbrev pub at : List PlacedEffect → ℕ → Option Effect
at rs n = find nat_cmp n rs

-- an effect in the rest is above
pub at-after : (n : ℕ) (rs : List PlacedEffect) → AllAfter n rs → (q : ℕ) (x : Effect) → at rs q ≡ Some x → n < q
at-after n [] up q x e = absurd (cc)
at-after n (r ∷ rs) up q x e =
    elim (eq_by_cmp nat_cmp q r.0) as (λ b. eq_by_cmp nat_cmp q r.0 ≡ b → cond b (Some r.1) (at rs q) ≡ Some x → n < q) [
      | true ↦ λ same _. let here : q ≡ r.0 = same_key q r.0 same in let above : n < r.0 = up.0 in omega arith
      | false ↦ λ _ is. at-after n rs up.1 q x is
    ] refl e

-- and is found in the whole
pub at-later : (r : PlacedEffect) (rs : List PlacedEffect) → AllAfter r.0 rs → (q : ℕ) (x : Effect) → at rs q ≡ Some x → at (r ∷ rs) q ≡ Some x
at-later r rs up q x e =
    let above : r.0 < q = at-after r.0 rs up q x e in
    ap (λ (b : Bool). cond b (Some r.1) (at rs q)) (other_key q r.0 (λ same. omega arith)) ∙ e

-- the head is at its place
pub at-head : (r : PlacedEffect) (rs : List PlacedEffect) → at (r ∷ rs) r.0 ≡ Some r.1
at-head r rs = ap (λ (b : Bool). cond b (Some r.1) (at rs r.0)) (key_itself r.0)

-- if no effect passes, none is found from the back
pub find_last_none : (p : PlacedEffect → Bool) (rs : List PlacedEffect) → Ascends rs
    → ((q : ℕ) (x : Effect) → at rs q ≡ Some x → p (q, x) ≡ false) → find_last p rs ≡ None
find_last_none p [] up misses = refl
find_last_none p (r ∷ rs) up misses =
    find_last-miss p r rs (misses r.0 r.1 (at-head r rs)) ∙ find_last_none p rs up.1 (λ q x e. misses q x (at-later r rs up.0 q x e))

-- the greatest place that passes
pub find_last_is : (p : PlacedEffect → Bool) (rs : List PlacedEffect) → Ascends rs → (n : ℕ) (e : Effect) → at rs n ≡ Some e → p (n, e) ≡ true
    → ((q : ℕ) (x : Effect) → at rs q ≡ Some x → p (q, x) ≡ true → q ≤ n) → find_last p rs ≡ Some (n, e)
find_last_is p [] up n e there passes most = absurd (cc)
find_last_is p (r ∷ rs) up n e there passes most =
    elim (eq_by_cmp nat_cmp n r.0) as (λ b. eq_by_cmp nat_cmp n r.0 ≡ b → cond b (Some r.1) (at rs n) ≡ Some e → find_last p (r ∷ rs) ≡ Some (n, e)) [
      | true ↦ λ same is.
          let here : n ≡ r.0 = same_key n r.0 same in
          let value : r.1 ≡ e = cc in
          let itself : ◌≡◌ {A = PlacedEffect} r (n, e) = λ i. (sym here i, value i) in
          let none : find_last p rs ≡ None = find_last_none p rs up.1 (λ q x at_q.
          let above : r.0 < q = at-after r.0 rs up.0 q x at_q in
          elim (p (q, x)) as (λ b. p (q, x) ≡ b → b ≡ false) [
            | true ↦ λ yes. let le : q ≤ n = most q x (at-later r rs up.0 q x at_q) yes in absurd (omega arith)
            | false ↦ λ _. refl
          ] refl) in
          let test : p r ≡ true = ap p itself ∙ passes in
          ap (λ (o : Option PlacedEffect). option_or o (cond (p r) (Some r) None)) none
          ∙ ap (λ (b : Bool). cond b (Some r) None) test ∙ ap Some itself
      | false ↦ λ _ is.
          ap (λ (o : Option PlacedEffect). option_or o (cond (p r) (Some r) None))
          (find_last_is p rs up.1 n e is passes (λ q x at_q. most q x (at-later r rs up.0 q x at_q)))
    ] refl there

-- if no effect passes, none is found
pub find_none : (p : PlacedEffect → Bool) (rs : List PlacedEffect) → Ascends rs
    → ((q : ℕ) (x : Effect) → at rs q ≡ Some x → p (q, x) ≡ false) → list.find p rs ≡ None
find_none p [] up misses = refl
find_none p (r ∷ rs) up misses =
    ap (λ (b : Bool). cond b (Some r) (list.find p rs)) (misses r.0 r.1 (at-head r rs))
    ∙ find_none p rs up.1 (λ q x e. misses q x (at-later r rs up.0 q x e))

-- the least place that passes
pub find_is : (p : PlacedEffect → Bool) (rs : List PlacedEffect) → Ascends rs → (n : ℕ) (e : Effect) → at rs n ≡ Some e → p (n, e) ≡ true
    → ((q : ℕ) (x : Effect) → at rs q ≡ Some x → p (q, x) ≡ true → n ≤ q) → list.find p rs ≡ Some (n, e)
find_is p [] up n e there passes least = absurd (cc)
find_is p (r ∷ rs) up n e there passes least =
    elim (eq_by_cmp nat_cmp n r.0) as (λ b. eq_by_cmp nat_cmp n r.0 ≡ b → cond b (Some r.1) (at rs n) ≡ Some e → list.find p (r ∷ rs) ≡ Some (n, e)) [
      | true ↦ λ same is.
          let here : n ≡ r.0 = same_key n r.0 same in
          let value : r.1 ≡ e = cc in
          let itself : ◌≡◌ {A = PlacedEffect} r (n, e) = λ i. (sym here i, value i) in
          let test : p r ≡ true = ap p itself ∙ passes in
          ap (λ (b : Bool). cond b (Some r) (list.find p rs)) test ∙ ap Some itself
      | false ↦ λ _ is.
          let above : r.0 < n = at-after r.0 rs up.0 n e is in
          elim (p r) as (λ b. p r ≡ b → cond b (Some r) (list.find p rs) ≡ Some (n, e)) [
            | true ↦ λ yes. let le : n ≤ r.0 = least r.0 r.1 (at-head r rs) yes in absurd (omega arith)
            | false ↦ λ _. find_is p rs up.1 n e is passes (λ q x at_q. least q x (at-later r rs up.0 q x at_q))
          ] refl
    ] refl there
