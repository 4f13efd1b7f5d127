-- Defines a line's run, from its seat and its reader to its end.
use Rattle.std.specs.Prelude.{ℕ, List, Option, Some}
use Rattle.line_ledger.specs.Days.{Terms}
use Rattle.line_ledger.specs.Seats.{SeatState}
use Rattle.participant_lines.specs.Runs.{Runs, RunsTallied}
use Rattle.participant_lines.specs.declared.line_end.LineOutcome.{LineOutcome}
use Rattle.participant_lines.specs.declared.tally.Tally.{Tally}

-- the line has run, and its reader is spent
abbrev pub HasRun : Terms → SeatState → Option (List ℕ) → ℕ → LineOutcome → SeatState → Type 0
HasRun terms s had refused ended s' = (rest : Option (List ℕ)) × Runs terms s had rest refused ended s'

-- the same with the tally of its refused frames
abbrev pub HasTallied : Terms → SeatState → Option (List ℕ) → Tally → LineOutcome → SeatState → Type 0
HasTallied terms s had tally ended s' = (rest : Option (List ℕ)) × RunsTallied terms s had rest tally ended s'

-- a line whose reader is still held
abbrev pub held : {S R : Type 0} → S × R → S × Option R
held line = (line.0, Some line.1)
