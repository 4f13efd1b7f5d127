use denote.RattleType.{RattleType}
use denote.Param.Send.{IsSend}
use Rattle.seen_cells.specs.contracts.Seen.{the_row}
use Rattle.seen_cells.proofs.Fields.{noted_keyless}

-- a `Seen` owns no place in memory, and what it knows is bound to no thread
pub send : (T : RattleType) → IsSend (the_row T)
send T = record { owned = λ n vs. ((λ vss. (tt, ((λ uss. (tt, tt)), tt))), noted_keyless T n.cell n.known); leaving = λ k d w. tt }
