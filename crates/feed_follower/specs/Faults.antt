-- The fault of a run that its sink ends.
use Rattle.feed_ends.specs.declared.fault.Fault.{Fault}
use Rattle.feed_ends.specs.declared.fault.Fault.TheVariants.{Memory, Write}
use Rattle.feed_follower.specs.declared.sink.SinkFault.{SinkFault}
use Rattle.feed_follower.specs.declared.sink.SinkFault.TheVariants as sink

-- the run's fault for its sink's
abbrev pub sink_fault : SinkFault → Fault
sink_fault sink.Write = Write
sink_fault sink.OutOfMemory = Memory
