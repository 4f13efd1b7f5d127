use Rattle.std.proofs.Common.{take}
use Rattle.std.specs.Io.KnownBytes.{Consumes}
use Rattle.day_control.specs.Lines.{IsLine}
use Rattle.day_control.proofs.line.read_line.Given as goal

-- what was read is at the front of the row, and has no line feed
abbrev pub invariant-loop-len : goal.invariant-loop-len
invariant-loop-len g l =
    Consumes (g.R.Read.remaining l.fn.reader) (g.R.Read.remaining l.reader) (take l.len l.row) × IsLine (take l.len l.row)
