use Rattle.day_journal.specs.Groups.{packet_count, pending}
use Rattle.day_journal.proofs.PutPackets.{AreSpelled, Left}
use Rattle.day_journal.proofs.group_putting.put_packets.Given as goal

-- what was put, and what is still to be put, is all, and what was put has a spelling
abbrev pub invariant-loop-place : goal.invariant-loop-place
invariant-loop-place g l = record {
  left : Left l.fn.text.items l.text.items l.session (pending l.held (g.S.Source.list l.source)) (packet_count (pending l.held (g.S.Source.list l.source))) l.place;
  spelled : AreSpelled l.session (pending l.held (g.S.Source.list l.source)) l.place;
}
