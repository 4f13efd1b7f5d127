-- The effect of one report on a summary, by its cells: the consolidated columns, and the participant's own.
use Rattle.std.specs.Prelude.{ℕ}
use Rattle.sale_matrix.specs.declared.matrix.Cells.{Cells}
use Rattle.scratch_fold.specs.declared.summary.Effect.{Effect}

-- the effect of a report on the consolidated summary
abbrev pub consolidated_effect : ℕ → ℕ → ℕ → Cells → Effect
consolidated_effect who price size cells =
    record { who = who; price = price; size = size; high_low = cells.ch; last = cells.cl; volume = cells.volume }

-- the effect of a report on its participant's own summary
abbrev pub participant_effect : ℕ → ℕ → ℕ → Cells → Effect
participant_effect who price size cells =
    record { who = who; price = price; size = size; high_low = cells.ph; last = cells.pl; volume = cells.volume }
