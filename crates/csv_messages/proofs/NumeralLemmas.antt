-- What digits write.
use Rattle.std.proofs.Common.{◌≡◌, ◌<◌, ◌≤◌, ◌+◌, ◌*◌, ◌-◌, ◌^◌, ◌∷◌, ◌∙◌, [], ℕ, zero, suc, List, true, false, ap, arith, length, take, get_or, nat_le, inl, inr}
use Rattle.std.specs.Char.{digit_value, is_ascii_digit}
use Rattle.std.specs.List.{list_all}
use Rattle.std.specs.Str.Parse.{AllDigits, digits_value}
use Rattle.std.proofs.lemmas.Bool.{cases_Bool, and_parts, leb-true}
use Rattle.std.proofs.lemmas.Bool.Decides.{nat_tests}
use Rattle.std.proofs.Math.Nat.{pow-le-pow_right}
use Rattle.std.proofs.lemmas.Str.Parse.{digits_value-take-le}
use Rattle.std.proofs.lemmas.Int.Digits.{digits_value-lt, digits_value_more}

-- a digit is 48 to 57
pub digit_range : (c : ℕ) → is_ascii_digit c ≡ true → (48 ≤ c) × (c ≤ 57)
digit_range c is = let parts = and_parts (nat_le 48 c) (nat_le c 57) is in (leb-true 48 c parts.0, leb-true c 57 parts.1)

-- what a digit counts
pub digit_value-digit : (c : ℕ) → 48 ≤ c → c ≤ 57 → digit_value c ≡ c - 48
digit_value-digit c low high = grind (arith, nat_tests)

-- a digit among digits
pub digit_among : (text : List ℕ) (i : ℕ) → list_all is_ascii_digit text ≡ true → i < length text → is_ascii_digit (get_or text i 0) ≡ true
digit_among [] i all within = absurd (omega arith)
digit_among (c ∷ cs) zero all within = elim (cases_Bool (is_ascii_digit c)) [
  | inl is ↦ is
  | inr other ↦ absurd (never (rw other at all))
]
  where
    never : false ≡ true → ⊥
    never e = cc
digit_among (c ∷ cs) (suc i) all within = elim (cases_Bool (is_ascii_digit c)) [
  | inl is ↦ digit_among cs i (rw is at all) (omega arith)
  | inr other ↦ absurd (never (rw other at all))
]
  where
    never : false ≡ true → ⊥
    never e = cc

-- digits are std's digits of base 10
pub AllDigits-all : (text : List ℕ) → list_all is_ascii_digit text ≡ true → AllDigits 10 text
AllDigits-all [] all = tt
AllDigits-all (c ∷ cs) all = elim (cases_Bool (is_ascii_digit c)) [
  | inl is ↦ let range = digit_range c is in (rw (digit_value-digit c range.0 range.1) (omega arith), AllDigits-all cs (rw is at all))
  | inr other ↦ absurd (never (rw other at all))
]
  where
    never : false ≡ true → ⊥
    never e = cc

-- so many digits write a number below this power of ten
pub digits_value-below : (text : List ℕ) → list_all is_ascii_digit text ≡ true → digits_value 10 text < 10 ^ length text
digits_value-below text all = digits_value-lt 10 text (AllDigits-all text all)

-- one digit more
pub digits_value-step : (text : List ℕ) (i : ℕ) → list_all is_ascii_digit text ≡ true → i < length text
    → digits_value 10 (take (i + 1) text) ≡ digits_value 10 (take i text) * 10 + (get_or text i 0 - 48)
digits_value-step text i all within =
    let range = digit_range (get_or text i 0) (digit_among text i all within) in
    digits_value_more 10 text i within ∙ ap (λ n. digits_value 10 (take i text) * 10 + n) (digit_value-digit (get_or text i 0) range.0 range.1)

-- at most twenty digits write a number below 10 ^ 20
pub digits_value-small : (text : List ℕ) → list_all is_ascii_digit text ≡ true → length text ≤ 20 → digits_value 10 text < 10 ^ 20
digits_value-small text all few =
    let below = digits_value-below text all in
    let most : 10 ^ length text ≤ 10 ^ 20 = pow-le-pow_right {n = 10} (omega arith) {i = length text} {j = 20} few in
    omega arith

-- so do the first of them
pub digits_value-front : (text : List ℕ) (i : ℕ) → list_all is_ascii_digit text ≡ true → length text ≤ 20 → digits_value 10 (take i text) < 10 ^ 20
digits_value-front text i all few =
    let small = digits_value-small text all few in
    let front = digits_value-take-le 10 text i (omega arith) in
    omega arith
