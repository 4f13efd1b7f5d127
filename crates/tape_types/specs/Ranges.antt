-- The ranges of the small values.
use Rattle.std.specs.Prelude.{◌≡◌, ℕ, ◌+◌, ◌-◌, ◌*◌, ◌/◌, ◌%◌, ◌<◌, ◌≤◌, Bool, ◌&&◌, ◌||◌, ◌==◌, nat_le, List, length, drop, take_while, All}

-- the greatest price, in ten-thousandths of a dollar
abbrev pub PRICE_MOST : ℕ
PRICE_MOST = 999999999999

-- the greatest size, in shares
abbrev pub SIZE_MOST : ℕ
SIZE_MOST = 99999999

-- the greatest message number
abbrev pub NUMBER_MOST : ℕ
NUMBER_MOST = 4294967295

-- the greatest tape number, which is how many entries a tape has at most
abbrev pub TAPE_MOST : ℕ
TAPE_MOST = 16777216

-- how many symbols a listing has at most
abbrev pub SYMBOLS_MOST : ℕ
SYMBOLS_MOST = 4096

-- how many participants a listing has at most, one for each capital letter
abbrev pub PARTICIPANTS_MOST : ℕ
PARTICIPANTS_MOST = 26

-- a price, in ten-thousandths of a dollar
abbrev pub IsPrice : ℕ → Type 0
IsPrice n = (1 ≤ n) × (n ≤ PRICE_MOST)

-- how many values the low part of a number has: 32 bits
abbrev pub FOUR_BYTE_NUMBERS : ℕ
FOUR_BYTE_NUMBERS = 4294967296

-- a number of two parts
abbrev pub of_parts : ℕ → ℕ → ℕ
of_parts low high = low + FOUR_BYTE_NUMBERS * high

-- the low part of a number
abbrev pub low_part : ℕ → ℕ
low_part number = number % FOUR_BYTE_NUMBERS

-- the high part of a number
abbrev pub high_part : ℕ → ℕ
high_part number = number / FOUR_BYTE_NUMBERS

-- a number of shares
abbrev pub IsSize : ℕ → Type 0
IsSize n = (1 ≤ n) × (n ≤ SIZE_MOST)

-- a message number, of a message or of a target
abbrev pub IsMessageNumber : ℕ → Type 0
IsMessageNumber n = (1 ≤ n) × (n ≤ NUMBER_MOST)

-- a position on the tape, from 1
abbrev pub IsTapeNumber : ℕ → Type 0
IsTapeNumber n = (1 ≤ n) × (n ≤ TAPE_MOST)

-- `A`, the first letter that a participant can be
abbrev pub FIRST_PARTICIPANT : ℕ
FIRST_PARTICIPANT = 65

-- `Z`, the last letter that a participant can be
abbrev pub LAST_PARTICIPANT : ℕ
LAST_PARTICIPANT = 90

-- a participant is a capital letter
abbrev pub IsParticipant : ℕ → Type 0
IsParticipant b = (FIRST_PARTICIPANT ≤ b) × (b ≤ LAST_PARTICIPANT)

-- a participant's index in a row by letter, from 0
abbrev pub row_index : ℕ → ℕ
row_index who = who - FIRST_PARTICIPANT

-- `A` to `Z`, `0` to `9`, or `.`
abbrev pub is_name_byte : ℕ → Bool
is_name_byte b = (nat_le 65 b && nat_le b 90) || ((nat_le 48 b && nat_le b 57) || (b == 46))

-- a symbol's name: its bytes before the padding
abbrev pub name_of : List ℕ → List ℕ
name_of bytes = take_while is_name_byte bytes

-- eight bytes: a name of at least one byte, and then spaces to the end
pub record IsSymbol (bytes : List ℕ) : Type 0 where
  pub eight : length bytes ≡ 8
  pub named : 0 < length (name_of bytes)
  pub padded : All (λ b. b ≡ 32) (drop (length (name_of bytes)) bytes)
