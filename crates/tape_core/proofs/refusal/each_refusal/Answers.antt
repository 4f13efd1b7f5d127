use Rattle.tape_core.specs.Lemmas.RefusalCodes.{position_known}
use Rattle.tape_core.proofs.refusal.each_refusal.Goals as goal

pub returns : goal.returns
returns c = record { holds = position_known }
