use Rattle.tape_frames.specs.Lemmas.Lengths.{entry_lengths, packet_lengths, request_lengths}
use Rattle.tape_frames.proofs.spelling.spelling_lengths.Goals as goal

pub returns-clause-entries : goal.returns-clause-entries
returns-clause-entries c = entry_lengths

pub returns-clause-packets : goal.returns-clause-packets
returns-clause-packets c = packet_lengths

pub returns-clause-requests : goal.returns-clause-requests
returns-clause-requests c = request_lengths
