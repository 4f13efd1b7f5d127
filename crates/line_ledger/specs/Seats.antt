-- A seat as contracts see it, and what is true of every seat.
use Rattle.std.specs.Prelude.{◌≡◌, ℕ, ◌≤◌, ◌*◌, ◌++◌, List, [], ◌∷◌, length, Bool, true}
use Rattle.std.specs.List.{sum_by}
use Rattle.reports.specs.declared.message.Message.{Message}
use Rattle.reports.specs.Messages.{header_of, reported_size}
use Rattle.tape_types.specs.Names.{Names}
use Rattle.tape_core.specs.Tape.{TapeState, lists_participant}
use Rattle.line_ledger.specs.declared.told.Told.{Told}
use Rattle.line_ledger.specs.Days.{has_figures}
use Rattle.tape_types.specs.Ranges.{SIZE_MOST, TAPE_MOST}

-- a seat: its participant and what it was told
pub record SeatState : Type 0 where
  pub who : ℕ
  pub told : List Told

-- the seat of a participant, told nothing
abbrev pub untold : ℕ → SeatState
untold who = record { who = who; told = [] }

-- the seat after it is told of one more admission
abbrev pub with_told : SeatState → ℕ → Message → SeatState
with_told s n m = record { who = s.who; told = s.told ++ record { number = n; message = m } ∷ [] }

-- the sum of the sizes of the reports told
abbrev pub sizes_told : List Told → ℕ
sizes_told told = sum_by (λ t. reported_size t.message) told

-- the number of the last message told, or the one given if there is none
abbrev pub last_told : ℕ → List Told → ℕ
last_told n [] = n
last_told n (t ∷ told) = last_told (header_of t.message).number told

-- a seat's participant is listed, its share has one part and the count of what it was told, and its figures are those of what
-- it was told
pub record IsCounted (listing : Names) (who parts amount sizes last : ℕ) (told : List Told) : Type 0 where
  pub listed : lists_participant listing who ≡ true
  pub one_part : parts ≡ 1
  pub counted : amount ≡ length told
  pub sizes_are : sizes ≡ sizes_told told
  pub last_is : last ≡ last_told 0 told
  pub bounded : sizes ≤ length told * SIZE_MOST
  pub within : length told ≤ TAPE_MOST

-- whether the tape's count, sizes and last number of the seat's participant are the seat's
abbrev pub agrees : TapeState → SeatState → Bool
agrees t s = has_figures t s.who (length s.told) (sizes_told s.told) (last_told 0 s.told)
