use Rattle.std.proofs.Common.{◌∙◌, arith}
use Rattle.tape_core.proofs.end_tape.EndTape.last_of.Goals as goal

pub returns : goal.returns
returns c = record { last = λ t keeps. c.last_number.ensures.value ∙ keeps.last_numbers c.args.participant (omega arith, omega arith) }
