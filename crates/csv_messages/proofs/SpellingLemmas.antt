-- A number is read exactly if it is spelled.
use Rattle.std.proofs.Common.{◌≡◌, ◌<◌, ◌≤◌, ◌+◌, ◌^◌, ◌∷◌, ◌++◌, ◌∙◌, ◌==◌, ◌&&◌, [], ℕ, zero, suc, List, Bool, true, false, Option, Some, None, option_and_then, refl, sym, ap, arith, length, length-append, replicate, nat_le, inl, inr, if◌then◌else◌}
use Rattle.std.specs.Fmt.{decimal}
use Rattle.std.specs.Str.Parse.{AllDigits, digits_value}
use Rattle.std.proofs.lemmas.Bool.{and_parts, cases_Bool, cases_eq, le-leb, leb-true, ne_eqb, eqb-false, not-true}
use Rattle.std.proofs.lemmas.Fmt.{decimal-digits_value, decimal_is_IsNumeral, decimal_nonempty}
use Rattle.std.proofs.lemmas.Str.Parse.{IsNumeralModel, numerals_by_value, tells_digits}
use Rattle.csv_messages.specs.Numbers.{are_digits, is_numeral, number_of, number_within, within}
use Rattle.csv_messages.specs.Spellings.{NumberIsSpelled, SpellsNumber}
use Rattle.csv_messages.proofs.NumeralLemmas.{AllDigits-all}
use Rattle.csv_messages.proofs.RoundTrip.{are_digits-decimal, within-own}

-- zeros in front count nothing
value-zeros : (zeros : ℕ) (digits : List ℕ) → digits_value 10 (replicate zeros 48 ++ digits) ≡ digits_value 10 digits
value-zeros zero digits = refl
value-zeros (suc zeros) digits = value-zeros zeros digits

-- and are digits
are_digits-zeros : (zeros : ℕ) (digits : List ℕ) → are_digits (replicate zeros 48 ++ digits) ≡ are_digits digits
are_digits-zeros zero digits = refl
are_digits-zeros (suc zeros) digits = are_digits-zeros zeros digits

-- what is spelled is read
pub number_of-spelled : (text : List ℕ) (number : ℕ) → number < 2 ^ 64 → SpellsNumber text number → number_of text ≡ Some number
unfolding number_of is_numeral
number_of-spelled text number fits spells =
    let some = decimal_nonempty number fits in
    let total : length text ≡ length (replicate spells.zeros 48) + length (decimal number) =
    ap length spells.digits ∙ length-append (replicate spells.zeros 48) (decimal number) in
    let not_none : (length text == 0) ≡ false = ne_eqb (length text) 0 (λ e. omega (arith, total, some)) in
    let not_many : nat_le (length text) 20 ≡ true = le-leb (length text) 20 spells.few in
    let digits : are_digits text ≡ true = ap are_digits spells.digits ∙ are_digits-zeros spells.zeros (decimal number) ∙ are_digits-decimal number fits in
    let value : digits_value 10 text ≡ number = ap (digits_value 10) spells.digits ∙ value-zeros spells.zeros (decimal number) ∙ (decimal_is_IsNumeral number fits).1 in
    rw (not_none, not_many, digits, value) refl

-- std's digits of base 10 with their value
own : IsNumeralModel (AllDigits 10) (digits_value 10)
own = numerals_by_value (AllDigits 10) tells_digits

-- digits are zeros, if any, and then the decimal digits of their value
digits-spell : (text : List ℕ) → AllDigits 10 text → 0 < length text → digits_value 10 text < 2 ^ 64
    → (zeros : ℕ) × (text ≡ replicate zeros 48 ++ decimal (digits_value 10 text))
digits-spell [] digits some fits = absurd (omega arith)
digits-spell (c ∷ []) digits some fits = (0, sym (decimal-digits_value own (c ∷ []) digits (omega arith) (λ e. refl) fits))
digits-spell (c ∷ d ∷ cs) digits some fits = elim (cases_eq c 48) [
  | inl is ↦
      let (zeros, spelled) = digits-spell (d ∷ cs) digits.1 (omega arith) (rw is at fits) in
      rw is (suc zeros, ap (λ (rest : List ℕ). 48 ∷ rest) spelled)
  | inr other ↦ (0, sym (decimal-digits_value own (c ∷ d ∷ cs) digits (omega arith) (λ e. absurd (other e)) fits))
]

-- what is within a range
pub within-is : (least most number n : ℕ) → within least most number ≡ Some n → (least ≤ number) × (number ≤ most) × (number ≡ n)
within-is least most number n is = cases (nat_le least number) (nat_le number most) refl refl is
  where
    cases : (low high : Bool) → nat_le least number ≡ low → nat_le number most ≡ high → (if low && high then Some number else None) ≡ Some n
        → (least ≤ number) × (number ≤ most) × (number ≡ n)
    cases true true low high is = (leb-true least number low, leb-true number most high, cc is)
    cases true false low high is = cc
    cases false high low h is = cc

-- a spelled number is digits
pub spelled-digits : (text : List ℕ) (number : ℕ) → number < 2 ^ 64 → SpellsNumber text number → are_digits text ≡ true
spelled-digits text number fits spells =
    ap are_digits spells.digits ∙ are_digits-zeros spells.zeros (decimal number) ∙ are_digits-decimal number fits

-- a number that is read is spelled so
pub spelled-value : (text : List ℕ) (number : ℕ) → number < 2 ^ 64 → number_of text ≡ Some number → SpellsNumber text number
unfolding number_of is_numeral
spelled-value text number fits is = elim (cases_Bool (is_numeral 20 text)) [
  | inl numeral ↦
      let some = and_parts _ _ numeral in
      let few = and_parts (nat_le (length text) 20) (are_digits text) some.1 in
      let not_none = eqb-false (length text) 0 (not-true _ some.0) in
      let nonempty : 0 < length text = omega (arith, not_none) in
      let same : Some (digits_value 10 text) ≡ Some number = rw numeral at is in
      let value : digits_value 10 text ≡ number = cc same in
      let (zeros, spelled) = digits-spell text (AllDigits-all text few.1) nonempty (omega (arith, value)) in
      rw (← value) (record { zeros = zeros; digits = spelled; few = leb-true (length text) 20 few.0 })
  | inr other ↦ cc (rw other at is)
]

-- what is read within a range is spelled so
spelled-number : (least most n : ℕ) (text : List ℕ) → most < 2 ^ 64 → number_within least most text ≡ Some n
    → (least ≤ n) × (n ≤ most) × SpellsNumber text n
unfolding number_within
spelled-number least most n text fits is = cases (number_of text) refl is
  where
    cases : (number : Option ℕ) → number_of text ≡ number → option_and_then (within least most) number ≡ Some n
        → (least ≤ n) × (n ≤ most) × SpellsNumber text n
    cases None at is = cc
    cases (Some number) at is =
        let range = within-is least most number n is in
        rw (← range.2) (range.0, range.1, spelled-value text number (omega (arith, range.1)) at)

-- a number is read from a text exactly if the text spells it and it is in its range
pub number_is_spelled : NumberIsSpelled
unfolding number_within
number_is_spelled least most number text fits = (
  spelled-number least most number text fits,
  λ spells. rw (number_of-spelled text number (omega (arith, spells.1)) spells.2) (within-own least most number spells.0 spells.1),
)
