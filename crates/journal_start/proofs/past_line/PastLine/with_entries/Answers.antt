use Rattle.std.proofs.Common.{sym}
use Rattle.journal_start.proofs.GroupLemmas.{with_entries-nil}
use Rattle.journal_start.proofs.past_line.PastLine.with_entries.Goals as goal

pub loop-entry-init : goal.loop-entry-init
loop-entry-init c = sym (with_entries-nil c.args.self)
