use Rattle.std.proofs.Common.{◌-◌, length}
use Rattle.std.specs.Prelude.{count_by, is_some}
use Rattle.subscriber.specs.Lemmas.Drains.{HasDrained}
use Rattle.subscriber.proofs.subscriber.Subscriber.drain.Given as goal

-- so many entries more are held
abbrev pub invariant-loop-self : goal.invariant-loop-self
invariant-loop-self l = HasDrained (length l.self.tape.entries - length l.fn.self.tape.entries) l.fn.self l.self

abbrev pub decreases-loop-self : goal.decreases-loop-self
decreases-loop-self l = count_by is_some l.self.window.slots
