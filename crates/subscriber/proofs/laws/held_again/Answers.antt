use Rattle.std.proofs.Common.{subst}
use Rattle.tape_frames.specs.declared.packet.Packet.{Packet}
use Rattle.subscriber.specs.Drains.{BringsHeld}
use Rattle.subscriber.proofs.Held.{stays, stays_anyway}
use Rattle.subscriber.proofs.Schedule.{one_packet}
use Rattle.subscriber.proofs.laws.held_again.Goals as goal

pub returns : goal.returns
returns c = record {
  idle = λ s base window packet held bytes spelled line answer after.
      stays_anyway s bytes line answer after (λ taken is.
      stays s base window bytes line taken after is (subst (λ (q : Packet). BringsHeld s q) (one_packet bytes packet is.packet spelled is.spelled) held));
}
