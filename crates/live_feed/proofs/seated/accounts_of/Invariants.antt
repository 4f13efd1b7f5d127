use Rattle.std.proofs.Common.{◌≡◌, ◌≤◌, length, map, take, vec_len}
use Rattle.std.specs.Vec.{vec_capacity}
use Rattle.live_feed.specs.Accounts.{told_account, told_end}
use Rattle.live_feed.proofs.seated.accounts_of.Given as goal

-- the accounts of the ends so far
abbrev pub invariant-loop-at : goal.invariant-loop-at
invariant-loop-at g l =
    (map (λ a. told_account a) l.accounts.items ≡ map (λ e. told_end e.seat e.tally e.ended) (take l.at l.ends)) ×
    (vec_len l.accounts ≡ l.at) × (length l.ends ≤ vec_capacity l.accounts)
