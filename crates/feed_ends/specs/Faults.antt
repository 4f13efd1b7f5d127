-- The status of each fault that ends a day without a report.
use Rattle.std.specs.Prelude.{ℕ}
use Rattle.feed_ends.specs.declared.fault.Fault.{Fault}
use Rattle.feed_ends.specs.declared.fault.Fault.TheVariants.{Read, Write, Memory, Worker, Disagrees}

-- the status of a fault
abbrev pub fault_status : Fault → ℕ
fault_status Read = 3
fault_status Write = 4
fault_status Memory = 5
fault_status Worker = 6
fault_status Disagrees = 7
