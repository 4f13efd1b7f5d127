-- The figures of a day that runs.
use Rattle.std.specs.Prelude.{◌≡◌, ◌<◌, ◌+◌, ◌-◌, ◌^◌, ℕ, List, min}
use Rattle.std.specs.List.{sum_by}
use Rattle.live_feed.specs.declared.line_counts.SeenLine.{SeenLine}
use Rattle.live_feed.specs.declared.status.DayFigures.{DayFigures}

-- how many messages of all lines were admitted: the tape's last number
abbrev pub admitted_in_all : List SeenLine → ℕ
admitted_in_all lines = sum_by (λ l. l.counts.admitted) lines

-- how many messages of all lines were refused
abbrev pub refused_in_all : List SeenLine → ℕ
refused_in_all lines = sum_by (λ l. l.counts.tally.refused) lines

-- how many messages of all lines the day's journal had when the day began
abbrev pub restored_in_all : List SeenLine → ℕ
restored_in_all lines = sum_by (λ l. l.before) lines

-- these are the figures of these lines
pub record AreFigures (lines : List SeenLine) (f : DayFigures) : Type 0 where
  pub admitted : admitted_in_all lines < 2 ^ 64 → f.admitted ≡ admitted_in_all lines
  pub refused : refused_in_all lines < 2 ^ 64 → f.refused ≡ refused_in_all lines
  pub restored : restored_in_all lines < 2 ^ 64 → f.restored ≡ restored_in_all lines

-- how many messages came since the day began or went on: what was restored came before
abbrev pub messages_of : DayFigures → ℕ
messages_of f = min (f.admitted - f.restored + f.refused) (2 ^ 64 - 1)
