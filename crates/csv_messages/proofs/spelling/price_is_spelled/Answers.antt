use Rattle.csv_messages.proofs.PriceSpelling.{price_is_spelled}
use Rattle.csv_messages.proofs.spelling.price_is_spelled.Goals as goal

pub returns : goal.returns
returns c = record { holds = price_is_spelled }
