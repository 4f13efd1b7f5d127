use Rattle.split_days.proofs.WorkedDays.{own-begins, whole-admits, whole-figures, part-figures}
use Rattle.split_days.proofs.laws.places.Goals as goal

pub returns-clause-admitted : goal.returns-clause-admitted
returns-clause-admitted c = whole-admits

pub returns-clause-own : goal.returns-clause-own
returns-clause-own c = own-begins

pub returns-clause-whole_figures : goal.returns-clause-whole_figures
returns-clause-whole_figures c = whole-figures

pub returns-clause-part_figures : goal.returns-clause-part_figures
returns-clause-part_figures c = part-figures
