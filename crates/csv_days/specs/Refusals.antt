-- What a tape refused, counted by reason.
use Rattle.std.specs.Prelude.{◌≡◌, ◌+◌, ◌==◌, ℕ, Bool, false, List, Option, Some, None, Result, Ok, Err, length}
use Rattle.std.specs.List.{count_by, position_from, slice_index_or}
use Rattle.std.specs.Option.{option_map}
use Rattle.tape_core.specs.Refusals.{refusal_code, refusal_position}
use Rattle.csv_messages.specs.Tables.{FIRST_ROW}
use Rattle.tape_core.specs.declared.refusal.Refusal.{Refusal}
use Rattle.csv_days.specs.declared.refusals.Refusals.{Refusals}
use Rattle.csv_days.specs.declared.refusals.RefusedRows.{RefusedRows}

-- whether an answer is this refusal
abbrev pub is_refusal : Refusal → Result ℕ Refusal → Bool
is_refusal reason (Ok number) = false
is_refusal reason (Err refused) = refusal_code refused == refusal_code reason

-- the rows of these answers that were refused for this reason, if any: how many, and the number of the first
unfoldable pub refused_rows : Refusal → List (Result ℕ Refusal) → Option RefusedRows
refused_rows reason answers =
    option_map (λ row. record { count = count_by (is_refusal reason) answers; first = row }) (position_from (is_refusal reason) FIRST_ROW answers)

-- the rows that were counted for this reason
abbrev pub refused_for : Refusals → Refusal → Option RefusedRows
refused_for refusals reason = slice_index_or refusals.reasons (refusal_position reason) None

-- the rows of these answers are counted for every reason
abbrev pub AreReasons : List (Result ℕ Refusal) → Refusals → Type 0
AreReasons answers refusals = (reason : Refusal) → refused_for refusals reason ≡ refused_rows reason answers

-- these are the refusals of these answers, and how many answers there are
pub record AreRefusals (answers : List (Result ℕ Refusal)) (refusals : Refusals) : Type 0 where
  pub rows : refusals.rows ≡ length answers
  pub reasons : AreReasons answers refusals

-- the rows refused for a reason, with one more
abbrev pub one_more : Option RefusedRows → ℕ → RefusedRows
one_more None row = record { count = 1; first = row }
one_more (Some refused) row = record { count = refused.count + 1; first = refused.first }

-- nothing was refused for any reason
abbrev pub RefusesNone : Refusals → Type 0
RefusesNone refusals = (reason : Refusal) → refused_for refusals reason ≡ None
