use Rattle.retransmit.proofs.ReadAgain.{each_answer_is_read}
use Rattle.retransmit.proofs.laws.each_answer_is_read.Goals as goal

pub returns : goal.returns
returns c = record { holds = each_answer_is_read }
