use Rattle.std.proofs.Common.{arith}
use Rattle.participant_lines.proofs.Fronts.{front_frame}
use Rattle.participant_lines.proofs.frame.frame_in.Goals as goal

pub returns-clause-frame : goal.returns-clause-frame
returns-clause-frame c =
    front_frame c.args.bytes.now c.in_ok-len.len c.in_ok-len.ensures.some.0
    (c.is_oversize.ensures.within c.if-is_oversize.false) (omega (arith, c.if-bytes-len.false))
