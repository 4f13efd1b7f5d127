use denote.Param.Send.{sendable}
use Rattle.std.proofs.Crossing.{crosses}
use Rattle.test_lines.proofs.Crossing.{sighting_send}
use Rattle.test_lines.proofs.tests.readers.read_twice.Goals as goal

-- what the first reader saw may go to another thread
pub join-requires-send-A : goal.join-requires-send-A
join-requires-send-A g c κs within = search (crosses, sendable, sighting_send) depth 12
