-- The targets of the day by rows, one for each participant.
use Rattle.std.specs.Prelude.{ℕ, ◌+◌, List, [], ◌∷◌, ◌++◌, map as map_list}
use Rattle.std.specs.FinMap as map
use Rattle.corrections.specs.declared.target.Target.{Target}
use Rattle.corrections.specs.Targets.{Targets}
use Rattle.tape_types.specs.Ranges.{FIRST_PARTICIPANT}
use Rattle.tape_types.specs.RisingState.{RisingState}

-- the reports of one participant by their message numbers, and the spare capacity
abbrev pub ReportRow : Type 0
ReportRow = RisingState Target

-- a row without a report and without spare capacity
abbrev pub empty_row : ReportRow
empty_row = record { values = map.empty; spare = 0 }

-- the entries of rows, the first row's under the participant `who` and each further one's under the next
abbrev pub row_entries : ℕ → List ReportRow → List ((ℕ × ℕ) × Target)
row_entries who [] = []
row_entries who (row ∷ rows) = map_list (λ e. ((who, e.0), e.1)) (map.entries row.values) ++ row_entries (who + 1) rows

-- the targets of rows that begin with the first participant's
abbrev pub targets_of_rows : List ReportRow → Targets
targets_of_rows rows = map.from_entries (row_entries FIRST_PARTICIPANT rows)
