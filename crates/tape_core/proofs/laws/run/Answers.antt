use Rattle.tape_core.specs.Tape.{IsLegal, IsTape}
use Rattle.tape_core.specs.Lemmas.LegalNext.{IsLegal-with_message, IsTape-with_message}
use Rattle.tape_core.proofs.RunLemmas.{Run-keeps}
use Rattle.tape_core.proofs.laws.run.Goals as goal

pub returns-clause-legal : goal.returns-clause-legal
returns-clause-legal c = Run-keeps IsLegal (λ t m legal none. IsLegal-with_message t m legal none)

pub returns-clause-tape : goal.returns-clause-tape
returns-clause-tape c = Run-keeps IsTape (λ t m tape none. IsTape-with_message t m tape none)
