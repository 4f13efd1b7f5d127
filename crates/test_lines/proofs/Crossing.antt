-- Shows that what a reader saw may go to another thread.
use denote.Param.Send.{IsSend, sendable}
use Rattle.std.proofs.Crossing.{crosses}
use Rattle.seen_cells.proofs.Seen.TheSendSync.{the_send as seen_send}
use Rattle.line_ledger.specs.contracts.sighting.Sighting as sighting
use Rattle.line_ledger.specs.contracts.sighting.Sighting.TheInside as inside

-- the parts of a sighting may be sent
inside_send : IsSend inside.the_row
inside_send = search (crosses, sendable, seen_send) depth 12

-- a sighting may be sent
pub sighting_send : IsSend sighting.the_row
sighting_send = search (sendable, inside_send) depth 12
