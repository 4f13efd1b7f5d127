use Rattle.std.proofs.Common.{◌≡◌, drop}
use Rattle.std.specs.List.{position_from}
use Rattle.std.specs.Str.{bytes_eq}
use Rattle.csv.specs.Records.{fields_of}
use Rattle.csv_messages.specs.Columns.{place_of}
use Rattle.csv_messages.proofs.columns.place_of.Given as goal

-- the first place is that among the names that are left
abbrev pub invariant-loop-place : goal.invariant-loop-place
invariant-loop-place l =
    place_of (fields_of l.names) l.name ≡ position_from (λ other. bytes_eq other l.name) l.place (drop l.place (fields_of l.names))
