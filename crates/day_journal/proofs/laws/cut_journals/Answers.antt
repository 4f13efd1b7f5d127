use Rattle.day_journal.proofs.Journals.{cut_journals}
use Rattle.day_journal.proofs.laws.cut_journals.Goals as goal

pub returns : goal.returns
returns c = record { holds = cut_journals }
