use Rattle.std.proofs.Common.{rules}
use Rattle.csv_days.proofs.NameLemmas.{names-none}
use Rattle.csv_days.proofs.day_names.DayNames.wrong.Goals as goal

pub returns-then-is_empty : goal.returns-then-is_empty
returns-then-is_empty c = λ messages are. names-none messages c.args.self.now are (search rules)
