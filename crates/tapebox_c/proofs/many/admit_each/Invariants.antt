use Rattle.std.proofs.Common.{◌≡◌, ◌≤◌, ◌-◌, length, take, drop}
use Rattle.tapebox_c.specs.Many.{Turns}
use Rattle.tapebox_c.proofs.many.admit_each.Given as goal

-- the messages so far are answered at the front of the row
abbrev pub invariant-loop-taken : goal.invariant-loop-taken
invariant-loop-taken l = record {
  within : l.answered ≤ length l.fn.numbers;
  read : l.taken ≤ length l.fn.bytes;
  room : length l.numbers ≡ length l.fn.numbers;
  behind : drop l.answered l.numbers ≡ drop l.answered l.fn.numbers;
  turns : Turns l.fn.bytes l.fn.tape 0 (take l.answered l.numbers) l.tape l.taken;
}

abbrev pub decreases-loop-taken : goal.decreases-loop-taken
decreases-loop-taken l = length l.fn.numbers - l.answered
