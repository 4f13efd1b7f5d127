-- Shows that each refusal is at its position among all, and that no two have the same number.
use Rattle.std.proofs.Common.{◌≡◌, ◌≤◌, ◌-◌, ◌∙◌, ℕ, nat_le, if◌then◌else◌, Some, slice_get, refl, sym, ap, arith}
use Rattle.std.proofs.lemmas.Option.{same_Some}
use Rattle.tape_core.specs.declared.refusal.Refusal.{Refusal}
use Rattle.tape_core.specs.declared.refusal.Refusal.TheVariants.{Closed, Full, WrongLine, UnknownParticipant, Stale, UnknownSymbol, NoSuchReport, OtherSymbol}
use Rattle.tape_core.specs.declared.refusal.Refusal.TheVariants.{Cancelled, OutOfMemory, WrongNumber, Standing, NotInMatrix}
use Rattle.tape_core.specs.Refusals.{all_refusals, refusal_code, refusal_position}

-- the numbers of refusals
pub code_range : (r : Refusal) → (31 ≤ refusal_code r) × (refusal_code r ≤ 44)
code_range Closed = (omega arith, omega arith)
code_range Full = (omega arith, omega arith)
code_range WrongLine = (omega arith, omega arith)
code_range UnknownParticipant = (omega arith, omega arith)
code_range Stale = (omega arith, omega arith)
code_range UnknownSymbol = (omega arith, omega arith)
code_range NoSuchReport = (omega arith, omega arith)
code_range OtherSymbol = (omega arith, omega arith)
code_range Cancelled = (omega arith, omega arith)
code_range OutOfMemory = (omega arith, omega arith)
code_range WrongNumber = (omega arith, omega arith)
code_range Standing = (omega arith, omega arith)
code_range NotInMatrix = (omega arith, omega arith)

-- each refusal is at its position
pub position_known : (r : Refusal) → slice_get all_refusals (refusal_position r) ≡ Some r
position_known Closed = refl
position_known Full = refl
position_known WrongLine = refl
position_known UnknownParticipant = refl
position_known Stale = refl
position_known UnknownSymbol = refl
position_known NoSuchReport = refl
position_known OtherSymbol = refl
position_known Cancelled = refl
position_known OutOfMemory = refl
position_known WrongNumber = refl
position_known Standing = refl
position_known NotInMatrix = refl

-- refusals with the same number are equal
pub same_number : (r other : Refusal) → refusal_code r ≡ refusal_code other → r ≡ other
same_number r other same =
    let position : refusal_position r ≡ refusal_position other = ap (λ (n : ℕ). if nat_le n 41 then n - 31 else n - 32) same in
    same_Some r other (sym (position_known r) ∙ ap (slice_get all_refusals) position ∙ position_known other)
