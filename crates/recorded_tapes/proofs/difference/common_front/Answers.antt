use Rattle.std.proofs.Common.{rules}
use Rattle.recorded_tapes.proofs.TextLemmas.{apart-end}
use Rattle.recorded_tapes.proofs.difference.common_front.Goals as goal

pub returns-clause-apart : goal.returns-clause-apart
returns-clause-apart c =
    apart-end c.args.one.now c.args.other.now c.min-shorter.result (search rules) (search rules)
