use Rattle.std.proofs.Common.{◌≡◌, ◌∙◌, ◌++◌, ◌∷◌, ◌+◌, ◌-◌, ◌/◌, [], ℕ, List, ap, arith, length, take, sym, rules}
use Rattle.std.specs.Fmt.{decimal}
use Rattle.std.proofs.lemmas.Fmt.{length-decimal-le}
use Rattle.std.proofs.lemmas.List.{take_at, append_assoc, length-append}
use Rattle.csv_messages.specs.Writing.{decimals_text, price_text}
use Rattle.csv_messages.proofs.writing.push_price.Goals as goal

pub write_digits-start-requires : goal.write_digits-start-requires
write_digits-start-requires c =
    let most = c.value.ensures.in_range in
    (length-decimal-le 8 (c.value.result / 10000) (omega arith) (omega (arith, most)) (omega (arith, most)), omega arith)

-- the front of two texts with two bytes over
front : (a : List ℕ) (p q r s t : ℕ) (n : ℕ) → n ≡ length a + 3 → take n (a ++ (p ∷ q ∷ r ∷ s ∷ t ∷ [])) ≡ a ++ (p ∷ q ∷ r ∷ [])
front a p q r s t n is =
    ap (take n) (sym (append_assoc a (p ∷ q ∷ r ∷ []) (s ∷ t ∷ []))) ∙ take_at (a ++ (p ∷ q ∷ r ∷ [])) (s ∷ t ∷ []) n (length-append a (p ∷ q ∷ r ∷ []) ∙ sym is)

pub returns-then-part-eq0-clause-fields : goal.returns-then-part-eq0-clause-fields
unfolding price_text decimals_text
returns-then-part-eq0-clause-fields c =
    let start = c.write_digits-start.ensures.start in
    let field = ap (take (11 - c.write_digits-start.result)) c.write_digits-start.ensures.written
    ∙ front (decimal (c.value.result / 10000)) 46 c.digit_at.result c.digit_at-2.result c.digit_at-3.result c.digit_at-4.result (11 - c.write_digits-start.result)
    (omega (arith, start)) in
    search (rules, field)
