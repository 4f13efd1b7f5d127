use Rattle.std.proofs.Common.{◌≡◌, drop}
use Rattle.tape_types.specs.Names.{has_repeat}
use Rattle.tape_types.proofs.listing.has_repeat.Given as goal

-- what is left repeats a name exactly if the whole does
abbrev pub invariant-loop-i : goal.invariant-loop-i
invariant-loop-i g l = has_repeat g.T.PartialEq.eq l.names ≡ has_repeat g.T.PartialEq.eq (drop l.i l.names)
