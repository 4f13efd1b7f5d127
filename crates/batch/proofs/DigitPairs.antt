-- Shows that digits spell the bytes of their pairs.
use Rattle.std.proofs.Common.{◌≡◌, ◌≤◌, ◌<◌, ◌+◌, ◌*◌, ◌/◌, ◌%◌, ◌&&◌, ◌∷◌, ◌++◌, ◌∙◌, [], ℕ, List, true, Option, Some, None, refl, sym, ap, arith, inl, inr}
use Rattle.std.proofs.Common.{length, length-take, take, get_or, append_assoc}
use Rattle.std.specs.Prelude.{IfSome, is_some, nat_le}
use Rattle.std.specs.List.{list_all}
use Rattle.std.proofs.lemmas.Bool.{cases_Bool}
use Rattle.std.proofs.lemmas.Bool.Decides.{nat_tests}
use Rattle.std.proofs.lemmas.List.{take_more}
use Rattle.std.proofs.lemmas.List.Folds.{list_all_at}
use Rattle.hex.specs.Hex.{hex_digit_value, is_hex_digit}
use Rattle.batch.specs.MessageLine.{hex_bytes}
use Rattle.batch.proofs.HexLemmas.{hex_bytes-both}

-- each of digits is one
digit-at : (digits : List ℕ) (i : ℕ) → i < length digits → list_all is_hex_digit digits ≡ true → is_hex_digit (get_or digits i 0) ≡ true
digit-at digits i less all = elim (cases_Bool (is_hex_digit (get_or digits i 0))) [
  | inl is ↦ is
  | inr not ↦ let none = list_all_at is_hex_digit digits i 0 less not in cc
]

-- a value that is told of a digit is the digit's
value-is : (o : Option ℕ) (value : ℕ) → is_some o ≡ true → IfSome o (λ v. value ≡ v) → o ≡ Some value
value-is None value some is = cc
value-is (Some v) value some is = ap Some (sym is)

-- two digits spell one byte
one_byte : (high low h l : ℕ) → hex_digit_value high ≡ Some h → hex_digit_value low ≡ Some l → hex_bytes (high ∷ low ∷ []) ≡ Some ((h * 16 + l) ∷ [])
unfolding hex_bytes
one_byte high low h l first second = rw (first, second) refl

-- two digits more of digits, whose values are these
pub pair-more : (digits bytes : List ℕ) (at h l : ℕ) → 2 * at + 2 ≤ length digits → list_all is_hex_digit digits ≡ true
    → IfSome (hex_digit_value (get_or digits (2 * at) 0)) (λ v. h ≡ v) → IfSome (hex_digit_value (get_or digits (2 * at + 1) 0)) (λ v. l ≡ v)
    → hex_bytes (take (2 * at) digits) ≡ Some bytes → hex_bytes (take (2 * (at + 1)) digits) ≡ Some (bytes ++ (h * 16 + l) ∷ [])
pair-more digits bytes at h l within all first second spelled =
    let high = get_or digits (2 * at) 0 in
    let low = get_or digits (2 * at + 1) 0 in
    let is_high = value-is (hex_digit_value high) h (digit-at digits (2 * at) (omega (arith, within)) all) first in
    let is_low = value-is (hex_digit_value low) l (digit-at digits (2 * at + 1) (omega (arith, within)) all) second in
    let twice : 2 * (at + 1) ≡ 2 * at + 1 + 1 = omega arith in
    let front = take (2 * at) digits in
    let even : length front % 2 ≡ 0 = let cut = length-take (2 * at) digits in omega (arith, cut, within) in
    let parts : take (2 * at + 1 + 1) digits ≡ front ++ (high ∷ low ∷ []) =
    take_more digits (2 * at + 1) 0 (omega (arith, within))
    ∙ ap (λ x. x ++ low ∷ []) (take_more digits (2 * at) 0 (omega (arith, within)))
    ∙ append_assoc front (high ∷ []) (low ∷ []) in
    ap (λ n. hex_bytes (take n digits)) twice ∙ ap hex_bytes parts
    ∙ hex_bytes-both front (high ∷ low ∷ []) bytes ((h * 16 + l) ∷ []) even spelled (one_byte high low h l is_high is_low)

-- ## The value of a digit

-- a digit's value by its low four bits, and nine more for a letter
pub value-of_digit : (c : ℕ) → IfSome (hex_digit_value c) (λ v. (c % 16 + c / 64 * 9) % 16 ≡ v)
value-of_digit c = elim (cases_Bool (nat_le 65 c && nat_le c 70)) [
  | inl upper ↦ rw upper (let least : 65 ≤ c = grind (arith, nat_tests, upper) in let most : c ≤ 70 = grind (arith, nat_tests, upper) in omega arith)
  | inr not_upper ↦ rw not_upper (elim (cases_Bool (nat_le 97 c && nat_le c 102)) [
    | inl lower ↦ rw lower (let least : 97 ≤ c = grind (arith, nat_tests, lower) in let most : c ≤ 102 = grind (arith, nat_tests, lower) in omega arith)
    | inr not_lower ↦ rw not_lower (elim (cases_Bool (nat_le 48 c && nat_le c 57)) [
      | inl number ↦ rw number (let least : 48 ≤ c = grind (arith, nat_tests, number) in let most : c ≤ 57 = grind (arith, nat_tests, number) in omega arith)
      | inr none ↦ rw none tt
    ])
  ])
]
