-- The rows that were refused for one reason, as a line names them.
use Rattle.std.specs.Prelude.{Option, None, Err, if◌then◌else◌}
use Rattle.std.specs.Option.{option_map}
use Rattle.tape_core.specs.declared.refusal.Refusal.{Refusal}
use Rattle.tape_core.specs.declared.refusal.Refusal.TheVariants.{Stale}
use Rattle.csv_days.specs.Refusals.{is_refusal, refused_for}
use Rattle.csv_days.specs.declared.refusals.Refusals.{Refusals}
use Rattle.csv_days.specs.declared.stale_row.StaleRow.{StaleRow}
use Rattle.desk_words.specs.declared.refusal_line.RefusalLine.{RefusalLine}

-- the first row that was refused as stale, if that is the reason
abbrev pub stale_of : Refusals → Refusal → Option StaleRow
stale_of refusals reason = if is_refusal Stale (Err reason) then refusals.stale else None

-- the rows that were refused for a reason, if there are any
abbrev pub refusal_line : Refusals → Refusal → Option RefusalLine
refusal_line refusals reason =
    option_map (λ refused. record { count = refused.count; rows = refusals.rows; reason = reason; first = refused.first; stale = stale_of refusals reason }) (refused_for refusals reason)
