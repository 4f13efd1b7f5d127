use Rattle.csv_messages.proofs.TextLemmas.{table_round_trip}
use Rattle.csv_messages.proofs.table_text.table_round_trip.Goals as goal

pub returns : goal.returns
returns c = record { holds = table_round_trip }
