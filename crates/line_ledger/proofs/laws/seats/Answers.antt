use Rattle.line_ledger.specs.Lemmas.OneEach.{each_kept}
use Rattle.line_ledger.proofs.laws.seats.Goals as goal

pub returns : goal.returns
returns c = record { each = each_kept }
