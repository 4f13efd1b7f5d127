use Rattle.recorded_tapes.proofs.Sameness.{tapes_are_recorded}
use Rattle.recorded_tapes.proofs.laws.tapes_are_recorded.Goals as goal

pub returns : goal.returns
returns c = record { holds = tapes_are_recorded c.tape_round_trip.ensures.holds }
