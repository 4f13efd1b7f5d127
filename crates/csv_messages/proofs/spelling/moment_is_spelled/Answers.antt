use Rattle.csv_messages.proofs.SpelledValues.{moment_is_spelled}
use Rattle.csv_messages.proofs.spelling.moment_is_spelled.Goals as goal

pub returns : goal.returns
returns c = record { holds = moment_is_spelled }
