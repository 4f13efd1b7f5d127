use Rattle.split_days.proofs.WorkedDays.{whole-begins, whole-refuses, part-admits, whole-lacks, part-has}
use Rattle.split_days.proofs.laws.premise.Goals as goal

pub returns-clause-first : goal.returns-clause-first
returns-clause-first c = whole-begins

pub returns-clause-refused : goal.returns-clause-refused
returns-clause-refused c = whole-refuses

pub returns-clause-admitted : goal.returns-clause-admitted
returns-clause-admitted c = part-admits

pub returns-clause-whole_figures : goal.returns-clause-whole_figures
returns-clause-whole_figures c = whole-lacks

pub returns-clause-part_figures : goal.returns-clause-part_figures
returns-clause-part_figures c = part-has
