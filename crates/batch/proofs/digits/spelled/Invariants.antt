use Rattle.std.proofs.Common.{◌≡◌, ◌*◌, length, take, true, Some}
use Rattle.std.specs.List.{list_all}
use Rattle.hex.specs.Hex.{is_hex_digit}
use Rattle.batch.specs.MessageLine.{hex_bytes}
use Rattle.batch.proofs.digits.spelled.Given as goal

-- the digits so far are spelled
abbrev pub invariant-loop-at : goal.invariant-loop-at
invariant-loop-at l = record {
  all : list_all is_hex_digit l.digits ≡ true;
  room : length l.bytes ≡ 8;
  spelled : hex_bytes (take (2 * l.at) l.digits) ≡ Some (take l.at l.bytes);
}
