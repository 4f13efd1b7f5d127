-- The one row that a message is written as.
use Rattle.std.specs.Prelude.{ℕ, ◌+◌, ◌/◌, ◌%◌, ◌==◌, Option, List, [], ◌∷◌, ◌++◌, map, codes, decimal, if◌then◌else◌}
use Rattle.std.specs.Option.{option_map_or}
use Rattle.tape_types.specs.Ranges.{name_of}
use Rattle.reports.specs.Messages.{brought_content, header_of, named_target}
use Rattle.reports.specs.declared.message.Message.{Message}
use Rattle.reports.specs.declared.message.Message.TheVariants.{Report, Cancel, Correct, Reinstate}
use Rattle.csv_messages.specs.Numbers.{DOLLAR}
use Rattle.csv_messages.specs.Rows.{RowText}
use Rattle.csv_messages.specs.Texts.{code_byte}

-- the word of a message's kind
abbrev pub kind_text : Message → List ℕ
kind_text (Report header content) = codes "report"
kind_text (Cancel header target) = codes "cancel"
kind_text (Correct header target content) = codes "correct"
kind_text (Reinstate header target) = codes "reinstate"

-- the digit of a number at the place of this power of ten
abbrev pub digit_at : ℕ → ℕ → ℕ
digit_at unit number = 48 + number / unit % 10

-- the decimals of ten-thousandths: two if they are whole cents, and four otherwise
unfoldable pub decimals_text : ℕ → List ℕ
decimals_text part =
    if part % 100 == 0 then digit_at 1000 part ∷ digit_at 100 part ∷ []
    else digit_at 1000 part ∷ digit_at 100 part ∷ digit_at 10 part ∷ digit_at 1 part ∷ []

-- a price in dollars
unfoldable pub price_text : ℕ → List ℕ
price_text price = decimal (price / DOLLAR) ++ (46 ∷ decimals_text (price % DOLLAR))

-- a condition with `_` for each blank
abbrev pub condition_text : List ℕ → List ℕ
condition_text condition = map code_byte condition

-- the text of what a message has, or nothing if it has none
abbrev pub text_or_none : {A : Type 0} → (A → List ℕ) → Option A → List ℕ
text_or_none text value = option_map_or text value []

-- the row of a message
unfoldable pub row_of : Message → RowText
row_of m = record {
  kind = kind_text m;
  participant = (header_of m).participant ∷ [];
  number = decimal (header_of m).number;
  moment = decimal (header_of m).moment;
  symbol = name_of (header_of m).symbol;
  target = text_or_none decimal (named_target m);
  price = text_or_none (λ content. price_text content.price) (brought_content m);
  size = text_or_none (λ content. decimal content.size) (brought_content m);
  condition = text_or_none (λ content. condition_text content.condition) (brought_content m);
}

-- the fields that every row begins with
abbrev pub header_fields : RowText → List (List ℕ)
header_fields row = row.kind ∷ row.participant ∷ row.number ∷ row.moment ∷ row.symbol ∷ []

-- the fields of a row in the order of the columns
abbrev pub row_fields : RowText → List (List ℕ)
row_fields row =
    row.kind ∷ row.participant ∷ row.number ∷ row.moment ∷ row.symbol ∷ row.target ∷ row.price ∷ row.size ∷ row.condition ∷ []
