use Rattle.std.proofs.Common.{[], arith, refl, ◌+◌, ◌++◌}
use Rattle.std.specs.List.{cons_option}
use Rattle.participant_lines.proofs.Steps.{does_both, does_none}
use Rattle.participant_lines.proofs.running.run_frames.Goals as goal

pub loop-done-init : goal.loop-done-init
loop-done-init g c = ([], c.none-tally.ensures.counts, does_none g.D.DayName.terms c.args.seat.now (g.R.Read.remaining c.args.reader.now))

pub loop-done-preserved : goal.loop-done-preserved
loop-done-preserved g c =
    let remaining = g.R.Read.remaining in
    let marks = c.loop-done.invariant.0 in
    let before = c.loop-done.invariant.2 in (
      marks ++ cons_option c.in-Ok.mark [],
      c.count.ensures.counts marks (omega (arith, before.few, c.loop-done-test.true)) c.loop-done.invariant.1,
      does_both g.D.DayName.terms c.args.seat.now c.loop-done.seat c.do_frame.new.seat
          (remaining c.args.reader.now) (remaining c.loop-done.reader) (remaining c.do_frame.new.reader) c.loop-done.done 1 marks
          (cons_option c.in-Ok.mark []) (c.loop-done.done + 1) before c.in-Ok.ensures.ok refl,
    )
