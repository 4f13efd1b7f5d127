use Rattle.std.proofs.Common.{◌≡◌, ◌+◌, length, arith, rules}
use Rattle.day_journal.specs.Groups.{pending}
use Rattle.day_journal.proofs.PutPackets.{length-pending}
use Rattle.day_journal.proofs.group_writer.GroupWriter.append_group.Goals as goal

pub returns-clause-state : goal.returns-clause-state
returns-clause-state g c =
    let list = g.S.Source.list c.args.source.now in
    let held : c.min-self-inside.result ≡ c.args.self.now.held + length (pending c.args.self.now.held list) =
    omega (arith, c.requires.some, length-pending c.args.self.now.held list, c.min-self-inside.ensures, c.published.ensures.count) in
    search (rules, held)
