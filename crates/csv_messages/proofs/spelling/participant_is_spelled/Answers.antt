use Rattle.csv_messages.proofs.SpelledValues.{participant_is_spelled}
use Rattle.csv_messages.proofs.spelling.participant_is_spelled.Goals as goal

pub returns : goal.returns
returns c = record { holds = participant_is_spelled }
