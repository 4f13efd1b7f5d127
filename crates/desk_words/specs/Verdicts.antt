-- The counts of a recorded tape's rows, and the status of its verdict.
use Rattle.std.specs.Prelude.{◌+◌, ◌-◌, ℕ, List, fold}
use Rattle.std.specs.Option.{option_map_or}
use Rattle.tape_core.specs.declared.refusal.Refusal.{Refusal}
use Rattle.csv_days.specs.Refusals.{refused_for}
use Rattle.tape_core.specs.Refusals.{all_refusals}
use Rattle.csv_days.specs.declared.refusals.Refusals.{Refusals}
use Rattle.recorded_tapes.specs.declared.verdict.Rows.{Rows}
use Rattle.recorded_tapes.specs.declared.verdict.Verdict.{Verdict}
use Rattle.recorded_tapes.specs.declared.verdict.Verdict.TheVariants.{Recorded, CutOff, Differs}
use Rattle.desk_words.specs.declared.verdict_line.RowCounts.{RowCounts}

-- how many rows were refused for a reason
abbrev pub refused_count : Refusals → Refusal → ℕ
refused_count refusals reason = option_map_or (λ refused. refused.count) (refused_for refusals reason) 0

-- how many rows were refused for any of these reasons
abbrev pub refused_for_any : Refusals → List Refusal → ℕ
refused_for_any refusals reasons = fold (λ refused reason. refused + refused_count refusals reason) 0 reasons

-- how many of the rows are entries and how many are refusals
abbrev pub row_counts : Rows → RowCounts
row_counts rows = let refused = refused_for_any rows.refusals all_refusals in record { entries = rows.count - refused; refusals = refused }

-- the status of the verdict: 0, or 1 if the tape differs or is cut off
abbrev pub verdict_status : Verdict → ℕ
verdict_status (Recorded rows) = 0
verdict_status (CutOff rows line) = 1
verdict_status (Differs difference) = 1
