use Rattle.std.proofs.Common.{◌≡◌, drop}
use Rattle.std.specs.Prelude.{nat_eq}
use Rattle.tape_types.specs.Names.{has_repeat}
use Rattle.day_terms.proofs.ports.has_repeat.Given as goal

-- what is left repeats a port exactly if the whole does
abbrev pub invariant-loop-i : goal.invariant-loop-i
invariant-loop-i l = has_repeat nat_eq l.ports ≡ has_repeat nat_eq (drop l.i l.ports)
