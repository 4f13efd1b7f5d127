use Rattle.csv_messages.proofs.PlaceLemmas.{first_place}
use Rattle.csv_messages.proofs.columns.first_place.Goals as goal

pub returns : goal.returns
returns c = record { holds = first_place }
