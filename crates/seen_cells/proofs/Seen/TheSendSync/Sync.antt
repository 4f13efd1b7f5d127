use denote.RattleType.{RattleType}
use denote.Param.Send.{IsSync, sendable}
use denote.Struct.Struct.{Struct}
use denote.Struct.Owning.{shape}
use Rattle.seen_cells.specs.contracts.Seen.{the_row, the_type}
use Rattle.seen_cells.proofs.Fields.{noted_keyless}

-- what is lent of a `Seen` is the same in every thread
pub sync : (T : RattleType) → IsSync (the_row T)
sync T = let fields : IsSync (Struct (shape (the_type T))) = search sendable depth 20 in
    record { shared = λ d b o ν. (fields.shared (tt, tt) b o ν, noted_keyless T d.cell d.known) }
