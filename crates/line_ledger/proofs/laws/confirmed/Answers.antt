use Rattle.std.proofs.Common.{refl}
use Rattle.line_ledger.proofs.Confirmed.{prefix, data_cut, as_many}
use Rattle.line_ledger.proofs.laws.confirmed.Goals as goal

pub returns-clause-prefix : goal.returns-clause-prefix
returns-clause-prefix c = prefix

pub returns-clause-data : goal.returns-clause-data
returns-clause-data c = λ names tokens t session from version first all. (refl, data_cut version names tokens t from first all)

pub returns-clause-beat : goal.returns-clause-beat
returns-clause-beat c = λ names tokens t session last first all low. (refl, as_many names tokens t last.count first all low)
