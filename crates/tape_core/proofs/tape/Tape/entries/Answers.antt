use Rattle.std.proofs.Common.{subst}
use Rattle.tape_core.specs.Tape.{IsLegal}
use Rattle.tape_core.proofs.tape.Tape.entries.Goals as goal

pub returns-clause-legal : goal.returns-clause-legal
returns-clause-legal g c = subst IsLegal c.self.view_is c.self.invariant.tape.legal
