use Rattle.csv_messages.proofs.SpelledValues.{symbol_is_spelled}
use Rattle.csv_messages.proofs.spelling.symbol_is_spelled.Goals as goal

pub returns : goal.returns
returns c = record { holds = symbol_is_spelled }
