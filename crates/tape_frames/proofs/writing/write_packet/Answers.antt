use Rattle.tape_frames.specs.Lemmas.Lengths.{packet_lengths}
use Rattle.tape_frames.proofs.writing.write_packet.Goals as goal

pub returns-clause-short : goal.returns-clause-short
returns-clause-short c = (packet_lengths c.args.packet.now c.put_packet-end.ensures.valid).1
