use denote.Param.Send.{sendable}
use Rattle.live_feed.proofs.Crossing.{sent_send}
use Rattle.live_feed.proofs.running.run_beside_sender.Goals as goal

-- what is told of the sender may go to another thread
pub join_mut-sent-requires-send-A : goal.join_mut-sent-requires-send-A
join_mut-sent-requires-send-A g c κs within = search (sendable, sent_send)
