-- The number read from an argument of decimal digits alone.
use Rattle.std.proofs.Common.{rules, ◌≡◌, ◌<◌, ◌^◌, ◌==◌, ◌∷◌, ◌∙◌, [], ℕ, List, true, Result, Ok, Err, Some, IfSome, refl, ap, sym, subst, arith, length, nat_lt, inl, inr}
use Rattle.std.proofs.lemmas.Bool.{cases_Bool}
use Rattle.std.proofs.lemmas.Bool.Decides.{nat_tests}
use Rattle.std.proofs.lemmas.Str.{IsUtf8-from_ascii}
use Rattle.std.proofs.lemmas.List.{get_or_past}
use Rattle.std.proofs.lemmas.Str.Parse.{IsNumeralModel, digit_at, numerals_by_value, parse_digits}
use Rattle.std.specs.Char.{is_ascii_digit}
use Rattle.std.specs.List.{list_all}
use Rattle.std.specs.Result.{OkIff, result_ok}
use Rattle.std.specs.Str.{IsAscii, IsUtf8}
use Rattle.std.specs.Str.Parse.{ParsesUnsigned, digits_value, without_leading_plus}
use Rattle.day_terms.specs.Values.{IsNumber}

-- digits have no leading sign
no_sign : (word : List ℕ) → list_all is_ascii_digit word ≡ true → without_leading_plus word ≡ word
no_sign [] digits = refl
no_sign (byte ∷ bytes) digits = elim (cases_Bool (byte == 43)) [
  | inl is ↦
      let plus : byte ≡ 43 = grind (arith, nat_tests, is) in
      let none = rw plus at digits in
      absurd (cc none)
  | inr isnt ↦ rw isnt refl
]

-- the number read from digits is theirs
pub number_read : {E : Type 0} (word : List ℕ) (read : Result ℕ E) → list_all is_ascii_digit word ≡ true → ParsesUnsigned 64 10 word read
    → IfSome (result_ok read) (λ number. IsNumber word number)
number_read word (Err fault) digits parsed = tt
number_read word (Ok number) digits parsed =
    let plain = rw (no_sign word digits) at parsed in record {
      some = plain.0.0.0;
      digits = digits;
      value = plain.1;
    }

-- the digits of a number, as the library has them
own : IsNumeralModel (λ digits. list_all is_ascii_digit digits ≡ true) (digits_value 10)
own = numerals_by_value _ (search rules)

-- digits are text
pub digits_text : (word : List ℕ) → list_all is_ascii_digit word ≡ true → IsUtf8 word
digits_text word digits = IsUtf8-from_ascii word ascii
  where
    ascii : IsAscii word
    ascii at = elim (cases_Bool (nat_lt at (length word))) [
      | inl is ↦ let digit = digit_at word at (own.to word digits) (grind (arith, nat_tests, is)) in omega (arith, digit.1)
      | inr isnt ↦ rw (get_or_past word at 0 (grind (arith, nat_tests, isnt))) (omega arith)
    ]

-- a number that is not read does not fit
each_of : {E : Type 0} (word : List ℕ) (read : Result ℕ E) → OkIff read ((0 < length word) × (digits_value 10 word < 2 ^ 64)) (digits_value 10 word)
    → (number : ℕ) → IsNumber word number → number < 2 ^ 64 → result_ok read ≡ Some number
each_of word (Err fault) never number is few = absurd (never (is.some, subst (λ n. n < 2 ^ 64) is.value few))
each_of word (Ok read) parsed number is few = ap Some (parsed.1 ∙ sym is.value)

-- each number of a text that fits is read from it
pub each_read : {E : Type 0} (word : List ℕ) (read : Result ℕ E) → ParsesUnsigned 64 10 word read
    → (number : ℕ) → IsNumber word number → number < 2 ^ 64 → result_ok read ≡ Some number
each_read word read parsed number is few = each_of word read (parse_digits own 64 word read parsed is.digits) number is few
