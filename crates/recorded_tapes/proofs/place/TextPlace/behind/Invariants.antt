use Rattle.std.proofs.Common.{◌≡◌, ◌≤◌, ◌+◌, take}
use Rattle.recorded_tapes.specs.Places.{place_behind}
use Rattle.recorded_tapes.proofs.place.TextPlace.behind.Given as goal

-- the place is that after the bytes so far, which are as many as were read
abbrev pub invariant-loop-byte : goal.invariant-loop-byte
invariant-loop-byte l = record {
  place : l.place ≡ place_behind (take l.byte-index l.text);
  read : l.place.read ≡ l.byte-index;
  line : l.place.line ≤ l.byte-index + 1;
  column : l.place.column ≤ l.byte-index;
  field : l.place.field ≤ l.byte-index;
}
