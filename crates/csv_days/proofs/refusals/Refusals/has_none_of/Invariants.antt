use Rattle.std.proofs.Common.{◌≡◌, take, true}
use Rattle.std.specs.List.{list_all}
use Rattle.std.specs.Prelude.{is_none}
use Rattle.csv_days.specs.Refusals.{refused_for}
use Rattle.csv_days.proofs.refusals.Refusals.has_none_of.Given as goal

-- none of the reasons so far has a row
abbrev pub invariant-loop-reason : goal.invariant-loop-reason
invariant-loop-reason l = list_all (λ reason. is_none (refused_for l.self reason)) (take l.reason-index l.reasons) ≡ true
