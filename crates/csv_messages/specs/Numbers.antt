-- How a table writes a number and a price.
use Rattle.std.specs.Prelude.{ℕ, ◌+◌, ◌-◌, ◌*◌, ◌^◌, ◌==◌, ◌&&◌, Bool, not, nat_le, List, length, take, drop, position, Option, Some, None, option_and_then}
use Rattle.std.specs.Prelude.{if◌then◌else◌}
use Rattle.std.specs.Char.{is_ascii_digit}
use Rattle.std.specs.List.{list_all}
use Rattle.std.specs.Option.{option_map}
use Rattle.std.specs.Str.Parse.{digits_value}
use Rattle.tape_types.specs.Ranges.{PRICE_MOST}

-- the most digits that a number has, including leading zeros
abbrev pub DIGITS_MOST : ℕ
DIGITS_MOST = 20

-- all bytes are decimal digits
abbrev pub are_digits : List ℕ → Bool
are_digits text = list_all is_ascii_digit text

-- one to `most` decimal digits
unfoldable pub is_numeral : ℕ → List ℕ → Bool
is_numeral most text = not (length text == 0) && (nat_le (length text) most && are_digits text)

-- the number that a text writes
unfoldable pub number_of : List ℕ → Option ℕ
number_of text = if is_numeral DIGITS_MOST text then Some (digits_value 10 text) else None

-- a number from least to most
abbrev pub within : ℕ → ℕ → ℕ → Option ℕ
within least most number = if nat_le least number && nat_le number most then Some number else None

-- the number that a text writes, if it is from least to most
unfoldable pub number_within : ℕ → ℕ → List ℕ → Option ℕ
number_within least most text = option_and_then (within least most) (number_of text)

-- ten-thousandths in a dollar
abbrev pub DOLLAR : ℕ
DOLLAR = 10000

-- the ten-thousandths that one to four digits after a point write
unfoldable pub decimals_of : List ℕ → Option ℕ
decimals_of text = if is_numeral 4 text then Some (digits_value 10 text * 10 ^ (4 - length text)) else None

-- the ten-thousandths of dollars
abbrev pub whole_dollars : List ℕ → Option ℕ
whole_dollars text = option_map (λ dollars. dollars * DOLLAR) (number_of text)

-- the ten-thousandths of dollars and of decimals after a point
unfoldable pub dollars_and_decimals : List ℕ → List ℕ → Option ℕ
dollars_and_decimals dollars decimals =
    option_and_then (λ whole. option_map (λ part. whole + part) (decimals_of decimals)) (whole_dollars dollars)

-- the ten-thousandths of a text with its first point at this place, if it has one
abbrev pub amount_by : Option ℕ → List ℕ → Option ℕ
amount_by None text = whole_dollars text
amount_by (Some point) text = dollars_and_decimals (take point text) (drop (point + 1) text)

-- the place of the first point of a text
abbrev pub point_of : List ℕ → Option ℕ
point_of text = position (λ byte. byte == 46) text

-- the ten-thousandths of a dollar that a text writes: dollars, and after a point one to four decimals
abbrev pub amount_of : List ℕ → Option ℕ
amount_of text = amount_by (point_of text) text

-- the price that a text writes
unfoldable pub price_of : List ℕ → Option ℕ
price_of text = option_and_then (within 1 PRICE_MOST) (amount_of text)
