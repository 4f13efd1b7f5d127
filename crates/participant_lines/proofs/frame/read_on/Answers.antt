use Rattle.std.proofs.Common.{rules, ◌≤◌, ◌-◌, length, length-take-le, take, arith}
use Rattle.whole_io.specs.Lemmas.Fills.{put_front}
use Rattle.participant_lines.proofs.frame.read_on.Goals as goal

pub returns-clause-bytes : goal.returns-clause-bytes
returns-clause-bytes g c =
    let read = c.in_ok-read.read in
    let fits : read ≤ length c.fill.new.row = search rules in
    let place : c.args.from ≤ length c.args.row.now = search rules in (
      take read c.fill.new.row,
      omega (arith, length-take-le read c.fill.new.row fits),
      put_front c.args.from (c.args.to - c.args.from) read c.args.row.now c.fill.new.row place fits,
      c.in_ok-read.ensures.bytes,
    )
