-- A price is read exactly if it is spelled.
use Rattle.std.proofs.Common.{◌≡◌, ◌<◌, ◌≤◌, ◌+◌, ◌-◌, ◌*◌, ◌/◌, ◌%◌, ◌^◌, ◌∷◌, ◌++◌, ◌∙◌, ◌==◌, [], ℕ, suc, List, true, false, not, Option, Some, None, refl, sym, ap, arith, length, take, drop, get_or, nat_le, nat_lt, inl, inr, option_and_then, option_map}
use Rattle.std.specs.Char.{digit_value, is_ascii_digit}
use Rattle.std.specs.List.{prefix_len}
use Rattle.std.specs.Str.Parse.{digits_value}
use Rattle.std.proofs.lemmas.Bool.{and_parts, cases_Bool, eqb-false, eqb-true, leb-true, le-ltb, ne_eqb, not-true}
use Rattle.std.proofs.lemmas.List.{take-append-drop, take_at}
use Rattle.std.proofs.lemmas.List.Quantifiers.{position-Some}
use Rattle.std.proofs.Math.Seq.{drop-cons}
use Rattle.tape_types.specs.Ranges.{IsPrice, PRICE_MOST}
use Rattle.csv_messages.specs.Numbers.{DOLLAR, amount_by, are_digits, decimals_of, dollars_and_decimals, is_numeral, number_of, point_of, price_of, within}
use Rattle.csv_messages.specs.Spellings.{PriceIsSpelled, SpellsDecimals, SpellsPrice}
use Rattle.csv_messages.specs.Writing.{digit_at}
use Rattle.csv_messages.proofs.NumeralLemmas.{digit_range, digit_value-digit}
use Rattle.csv_messages.proofs.RoundTrip.{decimals_of-four, decimals_of-two, digit-digit, digit-value, drop_after, point_of-digits, within-own}
use Rattle.csv_messages.proofs.SpellingLemmas.{number_of-spelled, spelled-digits, spelled-value, within-is}

-- ## Decimals

-- one decimal
decimals_of-one : (x : ℕ) → is_ascii_digit x ≡ true → decimals_of (x ∷ []) ≡ Some (digit_value x * 1000)
unfolding decimals_of is_numeral
decimals_of-one x first = rw first (ap Some (omega arith))

-- three decimals
decimals_of-three : (x y z : ℕ) → is_ascii_digit x ≡ true → is_ascii_digit y ≡ true → is_ascii_digit z ≡ true
    → decimals_of (x ∷ y ∷ z ∷ []) ≡ Some (((digit_value x * 10 + digit_value y) * 10 + digit_value z) * 10)
unfolding decimals_of is_numeral
decimals_of-three x y z first second third = rw (first, second, third) (ap Some (omega arith))

-- the parts of two lists of four
four-parts : (a b c d p q r s : ℕ) → (a ∷ b ∷ c ∷ d ∷ []) ≡ (p ∷ q ∷ r ∷ s ∷ []) → (a ≡ p) × (b ≡ q) × (c ≡ r) × (d ≡ s)
four-parts a b c d p q r s same = (cc same, cc same, cc same, cc same)

-- two lists of four by their parts
four-same : (a b c d p q r s : ℕ) → a ≡ p → b ≡ q → c ≡ r → d ≡ s → (a ∷ b ∷ c ∷ d ∷ []) ≡ (p ∷ q ∷ r ∷ s ∷ [])
four-same a b c d p q r s e f g h = cc

-- a digit of a number is a digit
digit-of : (x unit part : ℕ) → 0 < unit → x ≡ digit_at unit part → (is_ascii_digit x ≡ true) × (digit_value x ≡ part / unit % 10)
digit-of x unit part some is = (ap is_ascii_digit is ∙ digit-digit unit part some, ap digit_value is ∙ digit-value unit part some)

-- decimals that are spelled are read
decimals_of-spelled : (text : List ℕ) (part : ℕ) → part < 10000 → SpellsDecimals text part → decimals_of text ≡ Some part
decimals_of-spelled [] part few spells = absurd (omega (arith, spells.some))
decimals_of-spelled (x ∷ []) part few spells =
    let same = four-parts x 48 48 48 (digit_at 1000 part) (digit_at 100 part) (digit_at 10 part) (digit_at 1 part) spells.filled in
    let a = digit-of x 1000 part (omega arith) same.0 in
    decimals_of-one x a.0 ∙ ap Some (omega (arith, a.1, same.1, same.2, same.3))
decimals_of-spelled (x ∷ y ∷ []) part few spells =
    let same = four-parts x y 48 48 (digit_at 1000 part) (digit_at 100 part) (digit_at 10 part) (digit_at 1 part) spells.filled in
    let a = digit-of x 1000 part (omega arith) same.0 in
    let b = digit-of y 100 part (omega arith) same.1 in
    decimals_of-two x y a.0 b.0 ∙ ap Some (omega (arith, a.1, b.1, same.2, same.3))
decimals_of-spelled (x ∷ y ∷ z ∷ []) part few spells =
    let same = four-parts x y z 48 (digit_at 1000 part) (digit_at 100 part) (digit_at 10 part) (digit_at 1 part) spells.filled in
    let a = digit-of x 1000 part (omega arith) same.0 in
    let b = digit-of y 100 part (omega arith) same.1 in
    let c = digit-of z 10 part (omega arith) same.2 in
    decimals_of-three x y z a.0 b.0 c.0 ∙ ap Some (omega (arith, a.1, b.1, c.1, same.3))
decimals_of-spelled (x ∷ y ∷ z ∷ w ∷ []) part few spells =
    let same = four-parts x y z w (digit_at 1000 part) (digit_at 100 part) (digit_at 10 part) (digit_at 1 part) spells.filled in
    let a = digit-of x 1000 part (omega arith) same.0 in
    let b = digit-of y 100 part (omega arith) same.1 in
    let c = digit-of z 10 part (omega arith) same.2 in
    let d = digit-of w 1 part (omega arith) same.3 in
    decimals_of-four x y z w a.0 b.0 c.0 d.0 ∙ ap Some (omega (arith, a.1, b.1, c.1, d.1))
decimals_of-spelled (x ∷ y ∷ z ∷ w ∷ v ∷ more) part few spells = absurd (omega (arith, spells.few))

-- what is read as decimals
record ReadsDecimals (text : List ℕ) (part : ℕ) : Type 0 where
  some : 1 ≤ length text
  few : length text ≤ 4
  digits : are_digits text ≡ true
  value : digits_value 10 text * 10 ^ (4 - length text) ≡ part

reads-decimals : (text : List ℕ) (part : ℕ) → decimals_of text ≡ Some part → ReadsDecimals text part
unfolding decimals_of is_numeral
reads-decimals text part is = elim (cases_Bool (is_numeral 4 text)) [
  | inl numeral ↦
      let some = and_parts _ _ numeral in
      let few = and_parts (nat_le (length text) 4) (are_digits text) some.1 in
      let not_none = eqb-false (length text) 0 (not-true _ some.0) in
      let same : Some (digits_value 10 text * 10 ^ (4 - length text)) ≡ Some part = rw numeral at is in
      record { some = omega (arith, not_none); few = leb-true (length text) 4 few.0; digits = few.1; value = cc same }
  | inr other ↦ cc (rw other at is)
]

-- the first of digits, and the others
digit-first : (c : ℕ) (cs : List ℕ) → are_digits (c ∷ cs) ≡ true → (48 ≤ c) × (c ≤ 57) × (digit_value c ≡ c - 48) × (are_digits cs ≡ true)
digit-first c cs digits =
    let parts = and_parts (is_ascii_digit c) (are_digits cs) digits in
    let range = digit_range c parts.0 in
    (range.0, range.1, digit_value-digit c range.0 range.1, parts.1)

-- decimals that are read are spelled so, and are less than a dollar
spelled-decimals : (text : List ℕ) (part : ℕ) → decimals_of text ≡ Some part → SpellsDecimals text part × (part < 10000)
spelled-decimals text part is = by_length text (reads-decimals text part is)
  where
    by_length : (text : List ℕ) → ReadsDecimals text part → SpellsDecimals text part × (part < 10000)
    by_length [] reads = absurd (omega (arith, reads.some))
    by_length (x ∷ []) reads =
        let a = digit-first x [] reads.digits in
        let value = reads.value in
        (record { some = reads.some; few = reads.few; filled = four-same x 48 48 48 _ _ _ _ (omega arith) (omega arith) (omega arith) (omega arith) }, omega arith)
    by_length (x ∷ y ∷ []) reads =
        let a = digit-first x (y ∷ []) reads.digits in
        let b = digit-first y [] a.3 in
        let value = reads.value in
        (record { some = reads.some; few = reads.few; filled = four-same x y 48 48 _ _ _ _ (omega arith) (omega arith) (omega arith) (omega arith) }, omega arith)
    by_length (x ∷ y ∷ z ∷ []) reads =
        let a = digit-first x (y ∷ z ∷ []) reads.digits in
        let b = digit-first y (z ∷ []) a.3 in
        let c = digit-first z [] b.3 in
        let value = reads.value in
        (record { some = reads.some; few = reads.few; filled = four-same x y z 48 _ _ _ _ (omega arith) (omega arith) (omega arith) (omega arith) }, omega arith)
    by_length (x ∷ y ∷ z ∷ w ∷ []) reads =
        let a = digit-first x (y ∷ z ∷ w ∷ []) reads.digits in
        let b = digit-first y (z ∷ w ∷ []) a.3 in
        let c = digit-first z (w ∷ []) b.3 in
        let d = digit-first w [] c.3 in
        let value = reads.value in
        (record { some = reads.some; few = reads.few; filled = four-same x y z w _ _ _ _ (omega arith) (omega arith) (omega arith) (omega arith) }, omega arith)
    by_length (x ∷ y ∷ z ∷ w ∷ v ∷ more) reads = absurd (omega (arith, reads.few))

-- ## Prices

-- digits have no point
no_point : (text : List ℕ) → are_digits text ≡ true → point_of text ≡ None
no_point text digits =
    let all = prefix_len-all text digits in
    let none : nat_lt (prefix_len (λ byte. not (byte == 46)) text) (length text) ≡ false = le-ltb _ _ (omega (arith, all)) in
    rw none refl
  where
    prefix_len-all : (text : List ℕ) → are_digits text ≡ true → prefix_len (λ byte. not (byte == 46)) text ≡ length text
    prefix_len-all [] digits = refl
    prefix_len-all (c ∷ cs) digits =
        let first = digit-first c cs digits in
        let other : (c == 46) ≡ false = ne_eqb c 46 (λ e. omega arith) in
        let more = prefix_len-all cs first.3 in
        rw other (omega (arith, more))

-- a price that is spelled is read
price_of-spelled : (price : ℕ) (text : List ℕ) → IsPrice price → SpellsPrice text price → price_of text ≡ Some price
unfolding price_of dollars_and_decimals
price_of-spelled price text range (inl spells) =
    let point = no_point text (spelled-digits text (price / 10000) (omega (arith, range.1)) spells.0) in
    let whole : price / 10000 * 10000 ≡ price = omega (arith, spells.1) in
    rw (point, number_of-spelled text (price / 10000) (omega (arith, range.1)) spells.0)
    (ap (within 1 PRICE_MOST) whole ∙ within-own 1 PRICE_MOST price range.0 range.1)
price_of-spelled price text range (inr spells) =
    let digits = spelled-digits spells.dollars (price / 10000) (omega (arith, range.1)) spells.whole in
    let point = point_of-digits spells.dollars spells.decimals digits in
    let front = take_at spells.dollars (46 ∷ spells.decimals) (length spells.dollars) refl in
    let back = drop_after spells.dollars 46 spells.decimals in
    let whole : price / 10000 * 10000 + price % 10000 ≡ price = omega arith in
    rw (
      spells.split,
      point,
      front,
      back,
      number_of-spelled spells.dollars (price / 10000) (omega (arith, range.1)) spells.whole,
      decimals_of-spelled spells.decimals (price % 10000) (omega arith) spells.part,
    ) (ap (within 1 PRICE_MOST) whole ∙ within-own 1 PRICE_MOST price range.0 range.1)

-- a price that is read is spelled so
spelled-price : (price : ℕ) (text : List ℕ) → price_of text ≡ Some price → IsPrice price × SpellsPrice text price
unfolding price_of dollars_and_decimals
spelled-price price text is = cases (point_of text) refl is
  where
    whole : (number : Option ℕ) → number_of text ≡ number → option_and_then (within 1 PRICE_MOST) (option_map (λ dollars. dollars * DOLLAR) number) ≡ Some price
        → IsPrice price × SpellsPrice text price
    whole None at is = cc
    whole (Some dollars) at is =
        let range = within-is 1 PRICE_MOST (dollars * 10000) price is in
        let quotient : dollars ≡ price / 10000 = omega (arith, range.2) in
        let spells = spelled-value text dollars (omega (arith, range.1)) at in
        ((omega (arith, range), omega (arith, range)), inl (rw quotient at spells, omega (arith, range.2)))

    parts : (point : ℕ) → text ≡ take point text ++ 46 ∷ drop (point + 1) text → (number part : Option ℕ)
        → number_of (take point text) ≡ number → decimals_of (drop (point + 1) text) ≡ part
        → option_and_then (within 1 PRICE_MOST)
        (option_and_then (λ whole. option_map (λ over. whole + over) part) (option_map (λ dollars. dollars * DOLLAR) number)) ≡ Some price
        → IsPrice price × SpellsPrice text price
    parts point split None part front back is = cc
    parts point split (Some dollars) None front back is = cc
    parts point split (Some dollars) (Some over) front back is =
        let range = within-is 1 PRICE_MOST (dollars * 10000 + over) price is in
        let decimals = spelled-decimals (drop (point + 1) text) over back in
        let quotient : dollars ≡ price / 10000 = omega (arith, range.2, decimals.1) in
        let rest : over ≡ price % 10000 = omega (arith, range.2, decimals.1) in
        let spells = spelled-value (take point text) dollars (omega (arith, range.1)) front in (
          (omega (arith, range), omega (arith, range)),
          inr (record {
            dollars = take point text;
            decimals = drop (point + 1) text;
            split = split;
            whole = rw quotient at spells;
            part = rw rest at decimals.0;
          }),
        )

    cases : (point : Option ℕ) → point_of text ≡ point → option_and_then (within 1 PRICE_MOST) (amount_by (point_of text) text) ≡ Some price
        → IsPrice price × SpellsPrice text price
    cases None none is = whole (number_of text) refl (rw none at is)
    cases (Some point) there is = parts point (split-at point there) (number_of (take point text)) (decimals_of (drop (point + 1) text)) refl refl (rw there at is)
      where
        split-at : (point : ℕ) → point_of text ≡ Some point → text ≡ take point text ++ 46 ∷ drop (point + 1) text
        split-at point there =
            let found = position-Some (λ byte. byte == 46) text point 0 there in
            let mark : get_or text point 0 ≡ 46 = eqb-true (get_or text point 0) 46 found.1 in
            let one : point + 1 ≡ suc point = omega arith in
            let back : drop point text ≡ 46 ∷ drop (point + 1) text =
            rw one (drop-cons text point 0 found.0 ∙ ap (λ (byte : ℕ). byte ∷ drop (suc point) text) mark) in
            sym (take-append-drop point text) ∙ ap (λ (rest : List ℕ). take point text ++ rest) back

-- a price is read from a text exactly if the text spells it
pub price_is_spelled : PriceIsSpelled
price_is_spelled price text = (spelled-price price text, λ spells. price_of-spelled price text spells.0 spells.1)
