use Rattle.split_days.proofs.OwnTapes.{own-admits, own-summary, own-participant_summary}
use Rattle.split_days.proofs.laws.reporting.Goals as goal

pub returns-clause-admitted : goal.returns-clause-admitted
returns-clause-admitted c listing limit matrix symbols ms admits few = own-admits listing limit matrix symbols ms admits few

pub returns-clause-summary : goal.returns-clause-summary
returns-clause-summary c listing limit matrix symbols ms symbol admits few among = own-summary listing limit matrix symbols ms admits few symbol among

pub returns-clause-participant_summary : goal.returns-clause-participant_summary
returns-clause-participant_summary c listing limit matrix symbols ms symbol who admits few among =
    own-participant_summary listing limit matrix symbols ms admits few symbol among who
