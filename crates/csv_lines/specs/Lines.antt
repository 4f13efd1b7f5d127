-- A writer of `csv` over memory, between two lines.
use Rattle.std.specs.Prelude.{◌≡◌, ◌++◌, ℕ, List, false}
use Rattle.std.specs.Global.{Vec}
use Rattle.csv.specs.declared.writer.Writer.{Writer}
use Rattle.csv.specs.Writing.{default_writer, fields_written, has_written, writer_pending, writer_setup, writer_under}

-- the writer has the default form and has begun no line
pub record IsAtLineStart (w : Writer (Vec ℕ)) : Type 0 where
  pub setup : writer_setup w ≡ default_writer
  pub fields : fields_written w ≡ 0
  pub wrote : has_written w ≡ false

-- the lines written so far
abbrev pub lines_text : Writer (Vec ℕ) → List ℕ
lines_text w = (writer_under w).items ++ writer_pending w
