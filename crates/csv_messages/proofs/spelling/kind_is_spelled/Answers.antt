use Rattle.csv_messages.proofs.SpelledValues.{kind_is_spelled}
use Rattle.csv_messages.proofs.spelling.kind_is_spelled.Goals as goal

pub returns : goal.returns
returns c = record { holds = kind_is_spelled }
