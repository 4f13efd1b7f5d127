use Rattle.line_ledger.proofs.Differences.{differs_apart, differs_once}
use Rattle.line_ledger.proofs.OneDisagreement.{either, only}
use Rattle.line_ledger.proofs.laws.disagreement.Goals as goal

pub returns-clause-differ : goal.returns-clause-differ
returns-clause-differ c = differs_apart

pub returns-clause-first : goal.returns-clause-first
returns-clause-first c = differs_once

pub returns-clause-either : goal.returns-clause-either
returns-clause-either c = either

pub returns-clause-only : goal.returns-clause-only
returns-clause-only c = only
