use Rattle.std.proofs.Common.{◌≤◌, ◌*◌}
use Rattle.day_report.specs.Pieces.{AreMade}
use Rattle.day_report.proofs.pieces.worker_pieces.Given as goal
use Rattle.tape_types.specs.Ranges.{SYMBOLS_MOST}

abbrev pub invariant-loop : goal.invariant-loop
invariant-loop g l = record {
  -- each piece has at most `SYMBOLS_MOST` symbols
  few : l.done ≤ l.counter * SYMBOLS_MOST;
  -- the pieces so far have their rows
  made : AreMade l.tape l.size l.pieces.items;
}
