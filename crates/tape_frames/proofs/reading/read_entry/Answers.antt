use Rattle.std.proofs.Common.{◌≤◌, subst}
use Rattle.std.specs.Int.{w32}
use Rattle.tape_frames.specs.declared.packet_fault.PacketFault.TheVariants.{Short, BadEntry}
use Rattle.tape_frames.proofs.RangedFields.{ranged_within}
use Rattle.tape_frames.proofs.reading.read_entry.Goals as goal

pub returns-clause-fits : goal.returns-clause-fits
returns-clause-fits c =
    let number = c.in_ok-number.number in
    let range = ranged_within Short w32 1 c.number_most-most.result BadEntry _ number _ c.in_ok-number.ensures.reads in
    record {
      number = (range.0, subst (λ most. number ≤ most) c.number_most-most.ensures.value range.1);
      places = c.in_ok-after.ensures.places;
    }
