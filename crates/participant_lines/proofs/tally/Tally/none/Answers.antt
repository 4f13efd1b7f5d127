use Rattle.std.proofs.Common.{None, refl, replicate}
use Rattle.participant_lines.proofs.Tallies.{AreCounted-none}
use Rattle.participant_lines.proofs.tally.Tally.none.Goals as goal

pub returns : goal.returns
returns c = record { counts = AreCounted-none (record { reasons = replicate 34 None; refused = 0 }) refl refl }
