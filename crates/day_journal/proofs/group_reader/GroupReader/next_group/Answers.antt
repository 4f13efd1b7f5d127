use Rattle.std.proofs.Common.{◌≡◌, length, rules}
use Rattle.day_journal.proofs.group_reader.GroupReader.next_group.Goals as goal

pub returns-in-Ok-clause-ok : goal.returns-in-Ok-clause-ok
returns-in-Ok-clause-ok c =
    let many : c.len.result ≡ length c.read_group.new.entries.items = search rules in
    record { digest = c.in-Ok.digest; rest = c.read_group.new.unread.rest.now; read = search rules; after = search (rules, many) }
