-- The send budget: how many packets were sent in a millisecond, and how long to rest when it is spent.
use Rattle.std.specs.Prelude.{ℕ, ◌+◌, ◌-◌, ◌^◌, nat_lt, nat_le, ◌||◌, min, Bool, true, false, if◌then◌else◌}
use Rattle.live_feed.specs.declared.budget.TheConstants.{MILLISECOND}
use Rattle.live_feed.specs.Paces.{PaceState, pace_after}

-- what a contract sees of a budget: the pace, when the millisecond began, in nanoseconds of the clock, how many packets were
-- sent in it, and whether something was asked for in it
pub record BudgetState : Type 0 where
  pub pace : PaceState
  pub began : ℕ
  pub packets : ℕ
  pub was_asked : Bool

-- whether a millisecond that began then is over at this time, as it also is if the clock went back
abbrev pub is_over : ℕ → ℕ → Bool
is_over began now = nat_lt now began || nat_le (began + MILLISECOND) now

-- the budget at this time: of the same millisecond, or of one that begins at this time, with a lower pace if something was
-- asked for meanwhile
abbrev pub budget_at : ℕ → Bool → BudgetState → BudgetState
budget_at now asked b =
    if is_over b.began now
    then record { pace = if b.was_asked || asked then pace_after true b.pace else b.pace; began = now; packets = 0; was_asked = false }
    else record b { was_asked = b.was_asked || asked }

-- whether one more packet is the last of the millisecond's budget
abbrev pub is_spent : BudgetState → Bool
is_spent b = nat_le b.pace.packets (b.packets + 1)

-- the budget after a packet: one packet less, or that of the next millisecond, at the next pace
abbrev pub budget_after : BudgetState → BudgetState
budget_after b =
    if is_spent b
    then record { pace = pace_after b.was_asked b.pace; began = min (b.began + MILLISECOND) (2 ^ 64 - 1); packets = 0; was_asked = false }
    else record b { packets = b.packets + 1 }

-- for how many nanoseconds to rest after a packet: for what is left of the millisecond if its budget is spent, and else 0
abbrev pub rest_after : ℕ → BudgetState → ℕ
rest_after now b = if is_spent b then b.began + MILLISECOND - now else 0
