use Rattle.std.proofs.Common.{◌≤◌, subst}
use Rattle.std.specs.Int.{w32}
use Rattle.tape_frames.specs.declared.packet_fault.PacketFault.TheVariants.{BadEntry}
use Rattle.tape_frames.proofs.RangedFields.{ranged_within}
use Rattle.tape_frames.proofs.reading.read_mark.Goals as goal

pub returns-clause-place : goal.returns-clause-place
returns-clause-place c =
    let place = c.in_ok-place.place in
    subst (λ most. place ≤ most) c.number_most-most.ensures.value
    (ranged_within BadEntry w32 1 c.number_most-most.result BadEntry _ place _ c.in_ok-place.ensures.reads).1
