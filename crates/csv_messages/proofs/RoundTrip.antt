-- The row that a message is written as reads back.
use Rattle.std.proofs.Common.{◌≡◌, ◌<◌, ◌≤◌, ◌+◌, ◌*◌, ◌/◌, ◌%◌, ◌-◌, ◌^◌, ◌∷◌, ◌++◌, ◌∙◌, ◌==◌, [], ℕ, suc, List, true, false, not, refl, sym, ap, arith, length}
use Rattle.std.proofs.Common.{drop, nat_le, nat_lt, inl, inr, Some, None, Ok, length-append}
use Rattle.std.specs.Fmt.{decimal}
use Rattle.std.specs.Char.{digit_value, is_ascii_digit}
use Rattle.std.specs.List.{prefix_len}
use Rattle.std.specs.Option.{is_some}
use Rattle.std.specs.Str.Parse.{AllDigits}
use Rattle.std.proofs.lemmas.Bool.{cases_Bool, and_parts, le-leb, lt-ltb, ne_eqb, eqb-true}
use Rattle.std.proofs.lemmas.Fmt.{decimal_is_IsNumeral, length-decimal-le, decimal_nonempty}
use Rattle.std.proofs.lemmas.Str.Parse.{digit_from_value}
use Rattle.csv_messages.specs.Numbers.{is_numeral, number_of, number_within, within, decimals_of, dollars_and_decimals, point_of, price_of, are_digits}
use Rattle.std.proofs.lemmas.List.{take_at}
use Rattle.tape_types.specs.Lemmas.Symbols.{symbol_named-name}
use Rattle.tape_types.specs.Ranges.{FIRST_PARTICIPANT, LAST_PARTICIPANT, NUMBER_MOST, PRICE_MOST, SIZE_MOST, IsMessageNumber}
use Rattle.sale_matrix.specs.Matrix.{IsCondition, cells_in, first_rows, second_rows, third_rows, fourth_rows, is_within}
use Rattle.sale_matrix.specs.declared.matrix.Matrix.TheVariants.{Two}
use Rattle.sale_matrix.specs.declared.content.Content.{Content}
use Rattle.reports.specs.Messages.{brought_content, header_of, named_target}
use Rattle.reports.specs.Spelling.{IsHeader, IsContent}
use Rattle.reports.specs.Texts.{is_condition}
use Rattle.reports.specs.declared.message.Message.{Message}
use Rattle.reports.specs.declared.message.Message.TheVariants.{Report, Cancel, Correct, Reinstate}
use Rattle.csv_messages.specs.Laws.{RowRoundTrip}
use Rattle.csv_messages.specs.Kinds.{kind_of}
use Rattle.csv_messages.specs.declared.column.Column.TheVariants as column
use Rattle.csv_messages.specs.declared.kind.Kind.{Kind}
use Rattle.csv_messages.specs.declared.kind.Kind.TheVariants as kind
use Rattle.csv_messages.specs.Rows.{row_header, row_content, row_no_content, row_target, row_message_of, row_message, unused}
use Rattle.csv_messages.specs.Texts.{code_byte, code_of, condition_of, moment_of}
use Rattle.csv_messages.specs.Writing.{condition_text, decimals_text, digit_at, price_text, row_of}
use Rattle.csv_messages.proofs.NumeralLemmas.{digit_range, digit_value-digit}

-- ## Numbers

-- std's digits of base 10 are digits
all-AllDigits : (text : List ℕ) → AllDigits 10 text → are_digits text ≡ true
all-AllDigits [] digits = refl
all-AllDigits (c ∷ cs) digits =
    let range = digit_from_value c digits.0 in
    let low : nat_le 48 c ≡ true = le-leb 48 c range.0 in
    let high : nat_le c 57 ≡ true = le-leb c 57 range.1 in
    rw (low, high) (all-AllDigits cs digits.1)

-- a number is written in digits
pub are_digits-decimal : (n : ℕ) → n < 2 ^ 64 → are_digits (decimal n) ≡ true
are_digits-decimal n fits = all-AllDigits (decimal n) (decimal_is_IsNumeral n fits).0.1

-- a written number is a numeral
is_numeral-decimal : (n : ℕ) → n < 2 ^ 64 → is_numeral 20 (decimal n) ≡ true
unfolding is_numeral
is_numeral-decimal n fits =
    let some = decimal_nonempty n fits in
    let few = length-decimal-le 20 n (omega arith) (omega arith) fits in
    let not_none : (length (decimal n) == 0) ≡ false = ne_eqb (length (decimal n)) 0 (λ e. omega arith) in
    let not_many : nat_le (length (decimal n)) 20 ≡ true = le-leb (length (decimal n)) 20 few in
    rw (not_none, not_many, are_digits-decimal n fits) refl

-- a written number reads back
number_of-decimal : (n : ℕ) → n < 2 ^ 64 → number_of (decimal n) ≡ Some n
unfolding number_of
number_of-decimal n fits = rw (is_numeral-decimal n fits, (decimal_is_IsNumeral n fits).1) refl

-- a number of a range is within it
pub within-own : (least most n : ℕ) → least ≤ n → n ≤ most → within least most n ≡ Some n
within-own least most n low high = rw (le-leb least n low, le-leb n most high) refl

-- a written number of a range reads back
pub number_within-decimal : (least most n : ℕ) → least ≤ n → n ≤ most → n < 2 ^ 64 → number_within least most (decimal n) ≡ Some n
unfolding number_within
number_within-decimal least most n low high fits = rw (number_of-decimal n fits) (within-own least most n low high)

-- a written moment reads back
pub moment_of-decimal : (n : ℕ) → n < 2 ^ 64 → moment_of (decimal n) ≡ Some n
moment_of-decimal n fits = some (decimal n) (decimal_nonempty n fits) (number_within-decimal 0 (2 ^ 64 - 1) n (omega arith) (omega arith) fits)
  where
    some : (text : List ℕ) → 0 < length text → number_within 0 (2 ^ 64 - 1) text ≡ Some n → moment_of text ≡ Some n
    some [] none read = absurd (omega arith)
    some (byte ∷ bytes) nonempty read = read

-- ## Prices

-- a digit of ten-thousandths
pub digit-digit : (unit number : ℕ) → 0 < unit → is_ascii_digit (digit_at unit number) ≡ true
digit-digit unit number some =
    let d : ℕ = number / unit % 10 in
    let low : nat_le 48 (48 + d) ≡ true = le-leb 48 (48 + d) (omega arith) in
    let high : nat_le (48 + d) 57 ≡ true = le-leb (48 + d) 57 (omega arith) in
    rw (low, high) refl

-- what it counts
pub digit-value : (unit number : ℕ) → 0 < unit → digit_value (digit_at unit number) ≡ number / unit % 10
digit-value unit number some = digit_value-digit (digit_at unit number) (omega arith) (omega arith) ∙ omega arith

-- two decimals
pub decimals_of-two : (x y : ℕ) → is_ascii_digit x ≡ true → is_ascii_digit y ≡ true → decimals_of (x ∷ y ∷ []) ≡ Some ((digit_value x * 10 + digit_value y) * 100)
unfolding decimals_of is_numeral
decimals_of-two x y first second = rw (first, second) (ap Some (omega arith))

-- four decimals
pub decimals_of-four : (x y z w : ℕ) → is_ascii_digit x ≡ true → is_ascii_digit y ≡ true → is_ascii_digit z ≡ true → is_ascii_digit w ≡ true
    → decimals_of (x ∷ y ∷ z ∷ w ∷ []) ≡ Some (((digit_value x * 10 + digit_value y) * 10 + digit_value z) * 10 + digit_value w)
unfolding decimals_of is_numeral
decimals_of-four x y z w first second third fourth = rw (first, second, third, fourth) (ap Some (omega arith))

-- written decimals read back
decimals_of-text : (part : ℕ) → part < 10000 → decimals_of (decimals_text part) ≡ Some part
unfolding decimals_text
decimals_of-text part few =
    let a = digit-digit 1000 part (omega arith) in
    let b = digit-digit 100 part (omega arith) in
    let va = digit-value 1000 part (omega arith) in
    let vb = digit-value 100 part (omega arith) in
    elim (cases_Bool (part % 100 == 0)) [
      | inl cents ↦
          let whole : part % 100 ≡ 0 = eqb-true (part % 100) 0 cents in
          rw cents (decimals_of-two (digit_at 1000 part) (digit_at 100 part) a b ∙ ap Some (omega (arith, va, vb, whole)))
      | inr finer ↦
          let c = digit-digit 10 part (omega arith) in
          let d = digit-digit 1 part (omega arith) in
          let vc = digit-value 10 part (omega arith) in
          let vd = digit-value 1 part (omega arith) in
          rw finer (decimals_of-four (digit_at 1000 part) (digit_at 100 part) (digit_at 10 part) (digit_at 1 part) a b c d ∙ ap Some (omega (arith, va, vb, vc, vd)))
    ]

-- digits end at the point
prefix_len-digits : (dollars rest : List ℕ) → are_digits dollars ≡ true → prefix_len (λ byte. not (byte == 46)) (dollars ++ (46 ∷ rest)) ≡ length dollars
prefix_len-digits [] rest digits = refl
prefix_len-digits (c ∷ cs) rest digits = elim (cases_Bool (is_ascii_digit c)) [
  | inl is ↦
      let range = digit_range c is in
      let other : (c == 46) ≡ false = ne_eqb c 46 (λ e. omega arith) in
      let more = prefix_len-digits cs rest (rw is at digits) in
      rw other (omega (arith, more))
  | inr other ↦ absurd (never (rw other at digits))
]
  where
    never : false ≡ true → ⊥
    never e = cc

-- the point behind digits is the first
pub point_of-digits : (dollars rest : List ℕ) → are_digits dollars ≡ true → point_of (dollars ++ (46 ∷ rest)) ≡ Some (length dollars)
point_of-digits dollars rest digits =
    let place = prefix_len-digits dollars rest digits in
    let total : length (dollars ++ (46 ∷ rest)) ≡ length dollars + suc (length rest) = length-append dollars (46 ∷ rest) in
    let there : nat_lt (prefix_len (λ byte. not (byte == 46)) (dollars ++ (46 ∷ rest))) (length (dollars ++ (46 ∷ rest))) ≡ true =
    lt-ltb _ _ (omega (arith, place, total)) in
    rw (there, place) refl

-- what stands behind a byte behind a front
pub drop_after : (front : List ℕ) (byte : ℕ) (rest : List ℕ) → drop (length front + 1) (front ++ (byte ∷ rest)) ≡ rest
drop_after [] byte rest = refl
drop_after (x ∷ front) byte rest =
    let one : suc (length front) + 1 ≡ suc (length front + 1) = omega arith in
    rw one (drop_after front byte rest)

-- a written price reads back
pub price_of-text : (price : ℕ) → 1 ≤ price → price ≤ PRICE_MOST → price_of (price_text price) ≡ Some price
unfolding price_of price_text dollars_and_decimals
price_of-text price low high =
    let dollars : ℕ = price / 10000 in
    let part : ℕ = price % 10000 in
    let digits = are_digits-decimal dollars (omega arith) in
    let point = point_of-digits (decimal dollars) (decimals_text part) digits in
    let front = take_at (decimal dollars) (46 ∷ decimals_text part) (length (decimal dollars)) refl in
    let back = drop_after (decimal dollars) 46 (decimals_text part) in
    let whole : price / 10000 * 10000 + price % 10000 ≡ price = omega arith in
    rw (point, front, back, number_of-decimal dollars (omega arith), decimals_of-text part (omega arith))
    (ap (within 1 PRICE_MOST) whole ∙ within-own 1 PRICE_MOST price low high)

-- ## Participants and conditions

-- a code as it is written is no space
code_byte-no_space : (code : ℕ) → (code_byte code == 32) ≡ false
code_byte-no_space code = elim (cases_Bool (code == 32)) [
  | inl blank ↦ rw blank refl
  | inr other ↦ rw other other
]

-- a code other than `_` reads back
code_of-byte : (code : ℕ) → (code == 95) ≡ false → code_of (code_byte code) ≡ code
code_of-byte code other = elim (cases_Bool (code == 32)) [
  | inl blank ↦ rw blank (sym (eqb-true code 32 blank))
  | inr mark ↦ rw (mark, other) refl
]

-- no code of a condition is `_`
no_mark : (a b c d : ℕ) → is_within Two (a ∷ b ∷ c ∷ d ∷ []) ≡ true
    → ((a == 95) ≡ false) × ((b == 95) ≡ false) × ((c == 95) ≡ false) × ((d == 95) ≡ false)
unfolding is_within first_rows second_rows third_rows fourth_rows
no_mark a b c d coded =
    let first = and_parts (is_some (cells_in first_rows a)) _ coded in
    let second = and_parts (is_some (cells_in second_rows b)) _ first.1 in
    let third = and_parts (is_some (cells_in third_rows c)) _ second.1 in
    let fourth = and_parts (is_some (cells_in (fourth_rows Two) d)) _ third.1 in
    (not_mark first_rows a first.0 refl, not_mark second_rows b second.0 refl, not_mark third_rows c third.0 refl, not_mark (fourth_rows Two) d fourth.0 refl)
  where
    not_mark : (rows : List (List ℕ × List ℕ)) (code : ℕ) → is_some (cells_in rows code) ≡ true → is_some (cells_in rows 95) ≡ false → (code == 95) ≡ false
    not_mark rows code here absent = ne_eqb code 95 (λ e. cc (ap (λ (n : ℕ). is_some (cells_in rows n)) e, here, absent))

-- a written condition reads back
pub condition_of-text : (condition : List ℕ) → IsCondition condition → condition_of (condition_text condition) ≡ Some condition
unfolding condition_of is_condition
condition_of-text [] is = absurd (omega (arith, is.four))
condition_of-text (a ∷ []) is = absurd (omega (arith, is.four))
condition_of-text (a ∷ b ∷ []) is = absurd (omega (arith, is.four))
condition_of-text (a ∷ b ∷ c ∷ []) is = absurd (omega (arith, is.four))
condition_of-text (a ∷ b ∷ c ∷ d ∷ []) is =
    let marks = no_mark a b c d is.coded in
    rw (
      code_byte-no_space a,
      code_byte-no_space b,
      code_byte-no_space c,
      code_byte-no_space d,
      code_of-byte a marks.0,
      code_of-byte b marks.1,
      code_of-byte c marks.2,
      code_of-byte d marks.3,
      is.coded,
    ) refl
condition_of-text (a ∷ b ∷ c ∷ d ∷ e ∷ more) is = absurd (omega (arith, is.four))

-- ## Rows

-- the kind of a message
kind_named : Message → Kind
kind_named (Report header content) = kind.Report
kind_named (Cancel header target) = kind.Cancel
kind_named (Correct header target content) = kind.Correct
kind_named (Reinstate header target) = kind.Reinstate

-- its word reads back
kind-back : (m : Message) → kind_of (row_of m).kind ≡ Some (kind_named m)
unfolding row_of kind_named
kind-back (Report header content) = refl
kind-back (Cancel header target) = refl
kind-back (Correct header target content) = refl
kind-back (Reinstate header target) = refl

-- what every row begins with reads back
header-back : (m : Message) → IsHeader (header_of m) → row_header (row_of m) ≡ Ok (header_of m)
unfolding row_header row_of
header-back m is =
    rw (
      within-own FIRST_PARTICIPANT LAST_PARTICIPANT (header_of m).participant is.participant.0 is.participant.1,
      number_within-decimal 1 NUMBER_MOST (header_of m).number is.number.0 is.number.1 (omega (arith, is.number.1)),
      moment_of-decimal (header_of m).moment is.moment,
      symbol_named-name (header_of m).symbol is.symbol,
    ) refl

-- the target reads back
target-back : (m : Message) (target : ℕ) → named_target m ≡ Some target → IsMessageNumber target → row_target (row_of m) ≡ Ok target
unfolding row_target row_of
target-back m target named is = rw (named, number_within-decimal 1 NUMBER_MOST target is.0 is.1 (omega (arith, is.1))) refl

-- no target is an empty field
no_target-back : (m : Message) → named_target m ≡ None → unused column.Target (row_of m).target ≡ Ok tt
unfolding unused row_of
no_target-back m none = rw none refl

-- the content reads back
content-back : (m : Message) (content : Content) → brought_content m ≡ Some content → IsContent content → row_content (row_of m) ≡ Ok content
unfolding row_content row_of
content-back m content brought is =
    rw (
      brought,
      price_of-text content.price is.price.0 is.price.1,
      number_within-decimal 1 SIZE_MOST content.size is.size.0 is.size.1 (omega (arith, is.size.1)),
      condition_of-text content.condition is.condition,
    ) refl

-- no content is three empty fields
no_content-back : (m : Message) → brought_content m ≡ None → row_no_content (row_of m) ≡ Ok tt
unfolding row_no_content unused row_of
no_content-back m none = rw none refl

-- the row of every message reads back as that message
pub row_round_trip : RowRoundTrip
unfolding row_message row_message_of kind_named
row_round_trip (Report header content) is =
    let m : Message = Report header content in
    rw (kind-back m, header-back m is.0, no_target-back m refl, content-back m content refl is.1) refl
row_round_trip (Cancel header target) is =
    let m : Message = Cancel header target in
    rw (kind-back m, header-back m is.0, target-back m target refl is.1, no_content-back m refl) refl
row_round_trip (Correct header target content) is =
    let m : Message = Correct header target content in
    rw (kind-back m, header-back m is.0, target-back m target refl is.1.0, content-back m content refl is.1.1) refl
row_round_trip (Reinstate header target) is =
    let m : Message = Reinstate header target in
    rw (kind-back m, header-back m is.0, target-back m target refl is.1, no_content-back m refl) refl
