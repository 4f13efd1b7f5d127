use Rattle.std.proofs.Common.{◌≡◌, drop}
use Rattle.csv.specs.Records.{fields_of}
use Rattle.csv_messages.specs.Columns.{fault_from, header_fault}
use Rattle.csv_messages.proofs.columns.header_fault.Given as goal

-- the first fault is that of the names that are left
abbrev pub invariant-loop-place : goal.invariant-loop-place
invariant-loop-place l = header_fault (fields_of l.names) ≡ fault_from (fields_of l.names) l.place (drop l.place (fields_of l.names))
