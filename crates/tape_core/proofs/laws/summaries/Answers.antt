use Rattle.tape_core.proofs.SummaryLaws.{counts-last, keeps-others}
use Rattle.tape_core.proofs.laws.summaries.Goals as goal

pub returns-clause-report : goal.returns-clause-report
returns-clause-report c = counts-last

pub returns-clause-others : goal.returns-clause-others
returns-clause-others c = keeps-others
