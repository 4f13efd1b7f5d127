use Rattle.day_journal.proofs.Headers.{headers_again}
use Rattle.day_journal.proofs.laws.headers_are_read.Goals as goal

pub returns : goal.returns
returns c = record { holds = headers_again }
