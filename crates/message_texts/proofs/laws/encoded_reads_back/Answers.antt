use Rattle.message_texts.proofs.RoundTrip.{encoded_reads_back}
use Rattle.message_texts.proofs.laws.encoded_reads_back.Goals as goal

pub returns : goal.returns
returns c = record { holds = encoded_reads_back }
