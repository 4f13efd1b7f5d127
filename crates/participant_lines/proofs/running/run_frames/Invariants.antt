use Rattle.std.proofs.Common.{List}
use Rattle.participant_lines.specs.Runs.{Does}
use Rattle.participant_lines.specs.Tallies.{AreCounted}
use Rattle.participant_lines.specs.declared.tally.RefusedFrame.{RefusedFrame}
use Rattle.participant_lines.proofs.running.run_frames.Given as goal

-- as many frames as turns were done, and the tally is that of those that were refused
abbrev pub invariant-loop-done : goal.invariant-loop-done
invariant-loop-done g l =
    (marks : List RefusedFrame) × AreCounted marks l.tally
    × Does g.D.DayName.terms l.fn.seat (g.R.Read.remaining l.fn.reader) (g.R.Read.remaining l.reader) l.done marks l.seat
