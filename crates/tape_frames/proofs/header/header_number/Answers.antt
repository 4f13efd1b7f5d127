use Rattle.std.proofs.Common.{◌∙◌, Some, ap}
use Rattle.tape_frames.specs.declared.header.PacketHeader.{PacketHeader}
use Rattle.tape_frames.proofs.Headers.{number_is, read_is, read_some}
use Rattle.tape_frames.proofs.header.header_number.Goals as goal

pub returns-in-Ok : goal.returns-in-Ok
returns-in-Ok c = record {
  number = λ packet spelled.
      let same = read_is c.args.bytes.now packet c.in-Ok.header _ spelled (rw c.of-unread.ensures.rest at c.in-Ok.ensures) in
      ap (λ (h : PacketHeader). Some h.number) same ∙ ap Some (number_is packet);
}

pub returns-in-Err : goal.returns-in-Err
returns-in-Err c = record {
  number = λ packet spelled. absurd (read_some c.args.bytes.now packet c.in-Err.field-0 spelled (rw c.of-unread.ensures.rest at c.in-Err.ensures));
}
