-- Defines the texts of a day, by its messages and its matrix.
use Rattle.std.specs.Prelude.{ℕ, List}
use Rattle.sale_matrix.specs.declared.matrix.Matrix.{Matrix}
use Rattle.reports.specs.declared.message.Message.{Message}
use Rattle.csv_days.specs.Days.{day_text}
use Rattle.csv_days.specs.Explained.{explain_text}
use Rattle.csv_days.specs.TapeRows.{tape_text}
use Rattle.csv_days.specs.declared.day_text.DayText.{DayText}
use Rattle.csv_days.specs.declared.day_text.DayText.TheVariants.{Explanation, Report, Tape}

-- the text of this name, of the day of these messages
abbrev pub text_named : DayText → Matrix → List Message → List ℕ
text_named Report = day_text
text_named Tape = tape_text
text_named Explanation = explain_text
