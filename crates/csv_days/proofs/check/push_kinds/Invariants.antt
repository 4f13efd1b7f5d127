use Rattle.std.proofs.Common.{◌≡◌, ◌++◌, take}
use Rattle.std.specs.List.{flat_map}
use Rattle.csv_days.specs.Checks.{more_text}
use Rattle.csv_days.proofs.check.push_kinds.Given as goal

-- the lines of the kinds so far
abbrev pub invariant-loop-kind : goal.invariant-loop-kind
invariant-loop-kind l = l.text.items ≡ l.fn.text.items ++ flat_map (more_text l.counts) (take l.kind-index l.kinds)
