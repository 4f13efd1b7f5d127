use Rattle.csv_messages.proofs.SpelledValues.{condition_is_spelled}
use Rattle.csv_messages.proofs.spelling.condition_is_spelled.Goals as goal

pub returns : goal.returns
returns c = record { holds = condition_is_spelled }
