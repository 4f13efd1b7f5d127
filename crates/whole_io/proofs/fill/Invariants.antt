use Rattle.std.proofs.Common.{◌≡◌, ◌≤◌, length, take}
use Rattle.std.specs.Io.KnownBytes.{Consumes}
use Rattle.whole_io.proofs.fill.Given as goal

-- what was read is at the front of the row
abbrev pub invariant-loop : goal.invariant-loop
invariant-loop g l = record {
  size : length l.row ≡ length l.fn.row;
  within : l.len ≤ length l.row;
  bytes : Consumes (g.R.Read.remaining l.fn.reader) (g.R.Read.remaining l.reader) (take l.len l.row);
}
