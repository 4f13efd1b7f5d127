use Rattle.std.proofs.Common.{◌≡◌, false, take}
use Rattle.tape_types.specs.Names.{has_repeat}
use Rattle.tape_types.proofs.listing.in_order.Given as goal

-- the names so far, in their order, with none twice
abbrev pub invariant-loop-name : goal.invariant-loop-name
invariant-loop-name g l = record {
  keys : l.set.keys ≡ take l.name-index l.names;
  distinct : has_repeat g.T.PartialEq.eq (take l.name-index l.names) ≡ false;
}
