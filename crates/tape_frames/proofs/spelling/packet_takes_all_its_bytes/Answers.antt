use Rattle.tape_frames.specs.Lemmas.Packets.{packet_takes_all}
use Rattle.tape_frames.proofs.spelling.packet_takes_all_its_bytes.Goals as goal

pub returns : goal.returns
returns c = record { holds = packet_takes_all }
