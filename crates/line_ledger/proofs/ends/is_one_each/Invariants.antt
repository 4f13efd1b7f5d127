use Rattle.std.proofs.Common.{◌≡◌, ◌<◌, ℕ, slice_get, Some}
use Rattle.line_ledger.specs.Ends.{seats_of}
use Rattle.line_ledger.proofs.ends.is_one_each.Given as goal

-- there is one seat of each participant so far
abbrev pub invariant-loop-who : goal.invariant-loop-who
invariant-loop-who g l = (k who : ℕ) → k < l.who-index → slice_get l.participants k ≡ Some who → seats_of who l.seats ≡ 1
