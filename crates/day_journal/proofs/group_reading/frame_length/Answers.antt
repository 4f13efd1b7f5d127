use Rattle.std.proofs.Common.{arith}
use Rattle.day_journal.proofs.ReadPackets.{length_there}
use Rattle.day_journal.proofs.group_reading.frame_length.Goals as goal

pub returns-clause-there : goal.returns-clause-there
returns-clause-there c =
    omega (arith, length_there c.args.bytes.now c.in_ok-len.field-0 c.u16.new.self.rest.now (rw c.of-unread.ensures.rest at c.in_ok-len.ensures.reads), c.if-unread-len.false)
