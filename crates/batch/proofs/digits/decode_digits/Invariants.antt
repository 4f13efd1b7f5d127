use Rattle.std.proofs.Common.{◌≡◌, ◌*◌, ◌%◌, ◌+◌, length, take, drop, Some}
use Rattle.reports.specs.Reading.{LONGEST_FRAME}
use Rattle.batch.specs.MessageLine.{hex_bytes}
use Rattle.batch.proofs.digits.decode_digits.Given as goal

-- the digits before the rest are spelled, by sixteens
abbrev pub invariant-loop-sixteen : goal.invariant-loop-sixteen
invariant-loop-sixteen l = record {
  whole : l.at % 8 ≡ 0;
  left : 2 * l.at + length l.rest ≡ length l.digits;
  rest : l.rest ≡ drop (2 * l.at) l.digits;
  room : length l.row ≡ LONGEST_FRAME;
  spelled : hex_bytes (take (2 * l.at) l.digits) ≡ Some (take l.at l.row);
}

abbrev pub decreases-loop-sixteen : goal.decreases-loop-sixteen
decreases-loop-sixteen l = length l.rest
