use Rattle.participant_lines.proofs.Tallies.{reason-known}
use Rattle.participant_lines.proofs.tally.each_reason.Goals as goal

pub returns : goal.returns
returns c = record { holds = reason-known }
