use Rattle.std.proofs.Common.{arith}
use Rattle.day_journal.proofs.PutPackets.{length-pending}
use Rattle.day_journal.proofs.group_writer.GroupWriter.pending.Goals as goal

pub returns : goal.returns
returns g c = record {
  value = omega (
    arith,
    length-pending c.args.self.now.held (g.S.Source.list c.args.source.now),
    c.min-published.ensures,
    c.published.ensures.count,
    c.saturating_sub.ensures,
    c.held.ensures.held,
  );
}
