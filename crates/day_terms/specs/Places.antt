-- The line and the column at which a text stops being TOML.
use Rattle.std.specs.Prelude.{◌≡◌, ◌+◌, ◌-◌, ◌≤◌, ◌==◌, ℕ, Bool, not, List, drop, length, reverse, take, bit_and}
use Rattle.std.specs.List.{count_by, take_while}
use Rattle.day_terms.specs.Lines.{is_line_feed}
use Rattle.day_terms.specs.declared.day_fault.DayFault.{DayFault}
use Rattle.day_terms.specs.declared.day_fault.DayFault.TheVariants as told

-- whether a byte is within a line
abbrev pub is_no_line_feed : ℕ → Bool
is_no_line_feed byte = not (is_line_feed byte)

-- whether a byte begins a character
abbrev pub begins_character : ℕ → Bool
begins_character byte = not (bit_and byte 0xC0 == 0x80)

-- how many bytes follow the last line feed
abbrev pub last_length : List ℕ → ℕ
last_length text = length (take_while is_no_line_feed (reverse text))

-- the line, from 1, that follows these bytes: one more for each line feed
abbrev pub line_behind : List ℕ → ℕ
line_behind before = count_by is_line_feed before + 1

-- the column, from 1, that follows them: one more for each character behind the last line feed
abbrev pub column_behind : List ℕ → ℕ
column_behind before = count_by begins_character (drop (length before - last_length before) before) + 1

-- a fault of syntax has the line and the column of a place in the text
abbrev pub IsPlaced : List ℕ → DayFault → Type 0
IsPlaced text (told.Syntax fault) = (n : ℕ) × (n ≤ length text) × (fault.line ≡ line_behind (take n text)) × (fault.column ≡ column_behind (take n text))
IsPlaced text _ = Unit {0}
