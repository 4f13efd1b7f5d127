use Rattle.std.proofs.Common.{sym}
use Rattle.day_control.proofs.FullLines.{put_full_lines}
use Rattle.day_control.proofs.answer.put_answer.Goals as goal

pub loop-byte-init : goal.loop-byte-init
loop-byte-init c = rw c.clear.ensures.items (sym (put_full_lines c.args.told.now))
