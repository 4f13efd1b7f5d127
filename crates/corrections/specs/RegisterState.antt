-- The state of the register as contracts see it.
use Rattle.std.specs.Prelude.{ℕ, List, slice_index, slice_index_or, refl}
use Rattle.std.specs.Coded.{Coded, code_by, coded_ℕ, coded_list, coded×}
use Rattle.corrections.specs.declared.target.Target.{Target}
use Rattle.corrections.specs.TargetRows.{ReportRow, empty_row, targets_of_rows}
use Rattle.corrections.specs.Targets.{Targets}
use Rattle.tape_types.specs.Ranges.{row_index}
use Rattle.tape_types.specs.RisingState.{rising_code}

-- the rows of the participants' reports, and the row of their last message numbers
pub record RegisterState : Type 0 where
  pub rows : List ReportRow
  pub last_numbers : List ℕ

-- a register is stored as the pair of its fields
abbrev pub register_code : Coded Target → Coded RegisterState
register_code target =
    code_by (List ReportRow × List ℕ) (coded× (coded_list (rising_code target)) (coded_list coded_ℕ))
    (λ r. (r.rows, r.last_numbers)) (λ p. record { rows = p.0; last_numbers = p.1 }) (λ _. refl)

-- the targets of the day
abbrev pub targets_of : RegisterState → Targets
targets_of register = targets_of_rows register.rows

-- a participant's row
abbrev pub row_of : RegisterState → ℕ → ReportRow
row_of register who = slice_index_or register.rows (row_index who) empty_row

-- a participant's greatest message number, or 0 for none
abbrev pub last_number_of : RegisterState → ℕ → ℕ
last_number_of register who = slice_index register.last_numbers (row_index who)
