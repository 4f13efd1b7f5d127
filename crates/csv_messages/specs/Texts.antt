-- How a table writes a participant, a sale condition and a moment.
use Rattle.std.specs.Prelude.{ℕ, ◌-◌, ◌^◌, ◌==◌, List, [], ◌∷◌, map, Option, Some, None, if◌then◌else◌}
use Rattle.std.specs.List.{list_any}
use Rattle.tape_types.specs.Ranges.{FIRST_PARTICIPANT, LAST_PARTICIPANT}
use Rattle.reports.specs.Texts.{is_condition}
use Rattle.csv_messages.specs.Numbers.{number_within, within}

-- a participant by its name: one capital letter
abbrev pub participant_of : List ℕ → Option ℕ
participant_of [] = None
participant_of (letter ∷ []) = within FIRST_PARTICIPANT LAST_PARTICIPANT letter
participant_of (letter ∷ next ∷ rest) = None

-- a moment: a number, or nothing for 0
abbrev pub moment_of : List ℕ → Option ℕ
moment_of [] = Some 0
moment_of (byte ∷ bytes) = number_within 0 (2 ^ 64 - 1) (byte ∷ bytes)

-- a code as a condition has it, with a space for the blank that a table writes as `_`
abbrev pub code_of : ℕ → ℕ
code_of byte = if byte == 95 then 32 else byte

-- a code as a table writes it
abbrev pub code_byte : ℕ → ℕ
code_byte code = if code == 32 then 95 else code

-- codes that make a condition
abbrev pub as_condition : List ℕ → Option (List ℕ)
as_condition codes = if is_condition codes then Some codes else None

-- the sale condition of four codes, with `_` for each blank and no space
unfoldable pub condition_of : List ℕ → Option (List ℕ)
condition_of text = if list_any (λ byte. byte == 32) text then None else as_condition (map code_of text)
