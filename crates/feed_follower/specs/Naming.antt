-- What names the fault of a follower's run.
use Rattle.std.specs.Prelude.{◌≡◌, ◌⊎◌, ℕ, Option, Some, Result, Ok, Err}
use Rattle.feed_ends.specs.declared.fault.Fault.{Fault}
use Rattle.feed_ends.specs.declared.fault.Fault.TheVariants.{Disagrees}
use Rattle.feed_follower.specs.declared.follow_fault.FollowFault.{FollowFault}
use Rattle.feed_follower.specs.declared.follow_fault.FollowFault.TheVariants.{OtherEntry}

-- the fault is named by a number under which the retransmission has another entry
abbrev pub NamesNumber : Option FollowFault → Type 0
NamesNumber why = (number : ℕ) × (why ≡ Some (OtherEntry number))

-- success leaves the name of the fault as it was, and so does a fault, unless the retransmission disagrees: then a number may
-- be named
abbrev pub MayName : {T : Type 0} → Result T Fault → Option FollowFault → Option FollowFault → Type 0
MayName (Ok done) had has = has ≡ had
MayName (Err fault) had has = (has ≡ had) ⊎ ((fault ≡ Disagrees) × NamesNumber has)

-- the name of the fault stays as it was, unless the run is over because the retransmission disagrees about the number that is
-- named
abbrev pub MayEndBy : {T : Type 0} → Option (Result T Fault) → Option FollowFault → Option FollowFault → Type 0
MayEndBy over had has = (has ≡ had) ⊎ ((over ≡ Some (Err Disagrees)) × NamesNumber has)
