use Rattle.journal_start.proofs.StartLemmas.{ok_before}
use Rattle.journal_start.proofs.starting.start_journal.Goals as goal

-- the journal that was started after the bytes were read
pub returns-clause-starts : goal.returns-clause-starts
returns-clause-starts g c =
    ok_before c.start_from.result c.args.day.now c.in_ok-bytes.bytes.items (g.F.Write.contents c.args.disk.now) (g.F.Write.contents c.bytes_of.new.disk)
    (g.F.Write.contents c.start_from.new.disk) c.in_ok-bytes.ensures.bytes c.bytes_of.ensures.same c.start_from.ensures.starts
