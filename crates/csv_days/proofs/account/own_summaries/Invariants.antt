use Rattle.std.proofs.Common.{◌≡◌, ◌<◌, ℕ, get_or, length}
use Rattle.scratch_fold.specs.declared.summary.Summary.{Summary}
use Rattle.csv_days.specs.Accounts.{own_at}
use Rattle.csv_days.proofs.account.own_summaries.Given as goal

-- those so far are made
abbrev pub invariant-loop-place : goal.invariant-loop-place
invariant-loop-place l = record {
  count : length l.own.items ≡ l.place;
  each : (place : ℕ) (other : Summary) → place < length l.own.items → get_or l.own.items place other ≡ own_at l.tape place;
}
