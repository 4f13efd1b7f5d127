-- A text cut to fit a row of bytes.
use Rattle.std.proofs.Common.{◌≡◌, ◌⊎◌, ◌≤◌, ◌<◌, ◌-◌, ◌++◌, ◌∙◌, ℕ, List, sym, ap, arith, length, length-append, min, take, drop, replicate, inl, inr}
use Rattle.std.proofs.lemmas.Bool.{cases_lt}
use Rattle.std.proofs.lemmas.List.{drop-replicate, length-take, take_all, take_at}

-- the front of a row of forty-one bytes with zeros behind it
pub cut-fits : (front : List ℕ) (used : ℕ) → length front ≡ used → used ≤ 41
    → (used ≤ length (front ++ drop used (replicate 41 0)))
    × (front ++ drop used (replicate 41 0) ≡ take used (front ++ drop used (replicate 41 0)) ++ replicate (41 - used) 0)
cut-fits front used long few =
    let zeros : drop used (replicate {A = ℕ} 41 0) ≡ replicate {A = ℕ} (41 - used) 0 = drop-replicate {X = ℕ} used 41 0 in
    let total = length-append front (drop used (replicate 41 0)) in
    let kept : take used (front ++ drop used (replicate 41 0)) ≡ front = take_at front (drop used (replicate 41 0)) used long in
    (omega (arith, total, long), ap (λ (rest : List ℕ). front ++ rest) zeros ∙ ap (λ (f : List ℕ). f ++ replicate (41 - used) 0) (sym kept))

-- the front is what was cut
pub cut-is : (front text : List ℕ) (used : ℕ) → used ≡ min (length text) 41 → front ≡ take used text
    → take used (front ++ drop used (replicate 41 0)) ≡ take 41 text
cut-is front text used least is =
    let long : length front ≡ used = ap length is ∙ length-take used text ∙ omega (arith, least) in
    take_at front (drop used (replicate 41 0)) used long ∙ is ∙ same (cases_lt 41 (length text))
  where
    same : (41 < length text) ⊎ (length text ≤ 41) → take used text ≡ take 41 text
    same (inl more) =
        let all : used ≡ 41 = omega (arith, least, more) in
        ap (λ (n : ℕ). take n text) all
    same (inr few) = take_all used text (omega (arith, least, few)) ∙ sym (take_all 41 text few)
