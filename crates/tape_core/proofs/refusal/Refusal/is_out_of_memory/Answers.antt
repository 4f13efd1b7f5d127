use Rattle.std.proofs.Common.{ap, arith}
use Rattle.tape_core.specs.Lemmas.RefusalCodes.{same_number}
use Rattle.tape_core.specs.Refusals.{refusal_code}
use Rattle.tape_core.specs.declared.refusal.Refusal.TheVariants.{OutOfMemory}
use Rattle.tape_core.proofs.refusal.Refusal.is_out_of_memory.Goals as goal

pub returns-clause-memory : goal.returns-clause-memory
returns-clause-memory c = (λ is. same_number c.args.self OutOfMemory (grind (arith, is)), λ same. grind (arith, ap refusal_code same))
