use Rattle.day_journal.proofs.Journals.{one_spelling}
use Rattle.day_journal.proofs.laws.one_journal_spelling.Goals as goal

pub returns : goal.returns
returns c = record { holds = one_spelling }
