-- The range of numbers in three bytes.
use Rattle.std.specs.Prelude.{ℕ}

-- how many numbers three bytes hold
abbrev pub THREE_BYTE_NUMBERS : ℕ
THREE_BYTE_NUMBERS = 16777216
