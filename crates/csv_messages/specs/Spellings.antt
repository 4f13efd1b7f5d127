-- Defines the texts that spell each value; `Numbers`, `Texts` and `Kinds` define the value that a text writes.
use Rattle.std.specs.Prelude.{◌≡◌, ◌<◌, ◌≤◌, ◌-◌, ◌/◌, ◌%◌, ◌^◌, ◌↔◌, ◌⊎◌, ℕ, List, [], ◌∷◌, ◌++◌, length, replicate, decimal, Some}
use Rattle.tape_types.specs.Ranges.{IsParticipant, IsPrice, IsSymbol, name_of}
use Rattle.sale_matrix.specs.Matrix.{IsCondition}
use Rattle.csv_messages.specs.Kinds.{kind_letter, kind_of, kind_word}
use Rattle.csv_messages.specs.Numbers.{DIGITS_MOST, DOLLAR, number_within, price_of}
use Rattle.tape_types.specs.Names.{symbol_named}
use Rattle.csv_messages.specs.Texts.{condition_of, moment_of, participant_of}
use Rattle.csv_messages.specs.Writing.{condition_text, digit_at}
use Rattle.csv_messages.specs.declared.kind.Kind.{Kind}

-- zeros, if any, and then the number's decimal digits
pub record SpellsNumber (text : List ℕ) (number : ℕ) : Type 0 where
  pub zeros : ℕ
  pub digits : text ≡ replicate zeros 48 ++ decimal number
  pub few : length text ≤ DIGITS_MOST

-- a number is read from a text exactly if the text spells it and it is in its range
abbrev pub NumberIsSpelled : Type 0
NumberIsSpelled =
    (least most number : ℕ) (text : List ℕ) → most < 2 ^ 64
    → (number_within least most text ≡ Some number) ↔ ((least ≤ number) × (number ≤ most) × SpellsNumber text number)

-- the four decimals of ten-thousandths
abbrev pub four_decimals : ℕ → List ℕ
four_decimals part = digit_at 1000 part ∷ digit_at 100 part ∷ digit_at 10 part ∷ digit_at 1 part ∷ []

-- one to four digits that are the four decimals once zeros are put behind them
pub record SpellsDecimals (text : List ℕ) (part : ℕ) : Type 0 where
  pub some : 1 ≤ length text
  pub few : length text ≤ 4
  pub filled : text ++ replicate (4 - length text) 48 ≡ four_decimals part

-- dollars, a point and decimals
pub record SpellsParts (text : List ℕ) (price : ℕ) : Type 0 where
  pub dollars : List ℕ
  pub decimals : List ℕ
  pub split : text ≡ dollars ++ 46 ∷ decimals
  pub whole : SpellsNumber dollars (price / DOLLAR)
  pub part : SpellsDecimals decimals (price % DOLLAR)

-- dollars alone if nothing is over, or with decimals after a point
abbrev pub SpellsPrice : List ℕ → ℕ → Type 0
SpellsPrice text price = (SpellsNumber text (price / DOLLAR) × (price % DOLLAR ≡ 0)) ⊎ SpellsParts text price

-- a price is read from a text exactly if the text spells it
abbrev pub PriceIsSpelled : Type 0
PriceIsSpelled = (price : ℕ) (text : List ℕ) → (price_of text ≡ Some price) ↔ (IsPrice price × SpellsPrice text price)

-- a moment is read from a text exactly if the text spells it: as a number, or by nothing if it is 0
abbrev pub MomentIsSpelled : Type 0
MomentIsSpelled = (moment : ℕ) (text : List ℕ)
    → (moment_of text ≡ Some moment) ↔ (((text ≡ []) × (moment ≡ 0)) ⊎ ((moment < 2 ^ 64) × SpellsNumber text moment))

-- a kind is read from a text exactly if the text is its word or its letter
abbrev pub KindIsSpelled : Type 0
KindIsSpelled = (kind : Kind) (text : List ℕ) → (kind_of text ≡ Some kind) ↔ ((text ≡ kind_word kind) ⊎ (text ≡ kind_letter kind ∷ []))

-- a participant is read from a text exactly if the text is its letter
abbrev pub ParticipantIsSpelled : Type 0
ParticipantIsSpelled = (participant : ℕ) (text : List ℕ)
    → (participant_of text ≡ Some participant) ↔ (IsParticipant participant × (text ≡ participant ∷ []))

-- a symbol is read from a text exactly if the text is its name
abbrev pub SymbolIsSpelled : Type 0
SymbolIsSpelled = (symbol text : List ℕ) → (symbol_named text ≡ Some symbol) ↔ (IsSymbol symbol × (text ≡ name_of symbol))

-- a condition is read from a text exactly if the text is its four codes, with `_` for a blank
abbrev pub ConditionIsSpelled : Type 0
ConditionIsSpelled = (condition text : List ℕ)
    → (condition_of text ≡ Some condition) ↔ (IsCondition condition × (text ≡ condition_text condition))
