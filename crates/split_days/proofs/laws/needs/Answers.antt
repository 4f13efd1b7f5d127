use Rattle.split_days.proofs.WorkedDays.{no-name, no-room}
use Rattle.split_days.proofs.laws.needs.Goals as goal

pub returns-clause-room : goal.returns-clause-room
returns-clause-room c = no-room

pub returns-clause-names : goal.returns-clause-names
returns-clause-names c = no-name
