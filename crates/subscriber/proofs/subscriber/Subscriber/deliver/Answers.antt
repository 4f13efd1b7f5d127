use Rattle.std.proofs.Common.{◌≡◌, ◌+◌, rules, subst}
use Rattle.arbitration.specs.Counts.{taken_of}
use Rattle.subscriber.specs.Subscribers.{SubscriberState}
use Rattle.tape_frames.specs.Packets.{entries_of}
use Rattle.subscriber.proofs.subscriber.Subscriber.deliver.Goals as goal

pub returns-in-Ok-clause-ok : goal.returns-in-Ok-clause-ok
returns-in-Ok-clause-ok c = record {
  packet = c.in_ok-packet.packet;
  running = search rules;
  spelled = search rules;
  accepted = search rules;
  counts = subst (λ (s : SubscriberState). c.in-Ok.taken ≡ taken_of (s.window.base + 1) s.window.slots (entries_of c.in_ok-packet.packet)) c.self.view_is
      c.in-Ok.ensures.taken;
  state = search rules;
}
