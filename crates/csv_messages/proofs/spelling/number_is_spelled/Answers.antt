use Rattle.csv_messages.proofs.SpellingLemmas.{number_is_spelled}
use Rattle.csv_messages.proofs.spelling.number_is_spelled.Goals as goal

pub returns : goal.returns
returns c = record { holds = number_is_spelled }
