-- A `&` to a `Seen` holds what it knows, which can be had twice. Assumes `Logic`.
use base.Logic.{snd∗}
use base.Before.{before}
use types.Logic.{sem}
use denote.RattleType.{RattleType}
use denote.Builtin.{RawPtr}
use denote.Param.Laws.{Laws}
use denote.Param.Shared.{copy_shared}
use denote.Struct.Laws.{field_copy}
use denote.Struct.Lending.{of_Lends}
use Rattle.std.specs.contracts.marker.PhantomData as marker
use Rattle.once_cell.specs.Once.{noted}
use Rattle.once_cell.proofs.Notes.{noted_twice}
use Rattle.seen_cells.specs.contracts.Seen as C
use Rattle.seen_cells.proofs.Fields.{lends_twice}
use Rattle.seen_cells.proofs.Seen.TheLaw.Statement.{statement}

-- so what is lent of a `Seen` can be had twice, and for each shorter time
pub shares : (T : RattleType) (L : Laws T) → statement T L
shares T L = of_Lends (C.struct T) (C.the_codes T.Denot T.coded (marker.the_row RawPtr).coded) (C.the_heap T) (C.the_lent T)
    (λ d p. record {
      contraction = λ M 𝓤 𝓛 κ. noted_twice 𝓛 T d.cell d.known;
      mono =
          λ M 𝓤 𝓛 κ' κ. snd∗ 𝓤 (sem 𝓛 (before κ' κ)) (sem 𝓛 (noted T d.cell d.known));
    })
    (copy_shared (marker.the_field RawPtr) (field_copy (marker.the_type RawPtr) tt), tt)
    (λ M 𝓤 𝓛 d p. lends_twice 𝓛 (noted T d.cell d.known) (noted_twice 𝓛 T d.cell d.known) (C.the_row T).lives)
