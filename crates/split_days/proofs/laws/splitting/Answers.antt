use Rattle.split_days.proofs.Admissions.{AdmitsAll-part, summary-split, participant_summary-split}
use Rattle.split_days.proofs.laws.splitting.Goals as goal

pub returns-clause-admitted : goal.returns-clause-admitted
returns-clause-admitted c listing own limit most matrix symbols ms admits has = AdmitsAll-part symbols listing own limit most matrix ms admits has

pub returns-clause-summary : goal.returns-clause-summary
returns-clause-summary c listing own limit most matrix symbols ms symbol admits has among =
    summary-split symbols listing own limit most matrix ms admits has symbol among

pub returns-clause-participant_summary : goal.returns-clause-participant_summary
returns-clause-participant_summary c listing own limit most matrix symbols ms symbol who admits has among =
    participant_summary-split symbols listing own limit most matrix ms admits has symbol among who
