use Rattle.std.proofs.Common.{refl}
use Rattle.tape_core.proofs.EndKeeping.{KeepsEnd-empty}
use Rattle.tape_core.proofs.end_tape.EndTape.new.Goals as goal

pub returns : goal.returns
returns c = λ listing. KeepsEnd-empty listing c.args.matrix _ refl c.new.ensures.targets c.new.ensures.last_numbers c.new-2.ensures.items
