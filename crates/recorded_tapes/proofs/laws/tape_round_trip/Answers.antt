use Rattle.recorded_tapes.proofs.RoundTrip.{tape_round_trip}
use Rattle.recorded_tapes.proofs.laws.tape_round_trip.Goals as goal

pub returns : goal.returns
returns c = record { holds = tape_round_trip c.row_round_trip.ensures.holds }
