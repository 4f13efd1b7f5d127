-- What the sender saw may go to another thread.
use denote.Param.Send.{IsSend, recorded_send, sendable, struct_send}
use denote.Struct.Declared.{shape}
use Rattle.std.proofs.Crossing.{crosses, Vec-send}
use Rattle.std.proofs.option.Option.TheSendSync.{the_field_send as option_send}
use Rattle.seen_cells.proofs.Seen.TheSendSync.{the_send as seen_send}
use Rattle.line_ledger.specs.contracts.sighting.Sighting as sighting
use Rattle.line_ledger.specs.contracts.sighting.Sighting.TheInside as inside
use Rattle.feed_ends.specs.contracts.fault.Fault as fault
use Rattle.live_feed.specs.contracts.sender.SenderEnd as sent
use Rattle.feed_ends.proofs.fault.Fault.TheSendSync.{the_send as fault_send}

-- the parts of a sighting
inside_send : IsSend inside.the_row
inside_send = search (crosses, sendable, seen_send) depth 12

-- a sighting
sighting_send : IsSend sighting.the_row
sighting_send = search (sendable, inside_send) depth 12

-- the parts of what is told of the sender
pub sent_parts_send : IsSend (sent.the_field).row
sent_parts_send = struct_send (shape sent.the_type) (Vec-send _ sighting_send, (search sendable, (option_send fault.the_row fault_send, tt)))

-- all of it
pub sent_send : IsSend sent.the_row
sent_send = recorded_send (sent.the_field).row _ _ (sent.the_type).to_one sent_parts_send
