use Rattle.csv_messages.proofs.RoundTrip.{row_round_trip}
use Rattle.csv_messages.proofs.writing.row_round_trip.Goals as goal

pub returns : goal.returns
returns c = record { holds = row_round_trip }
