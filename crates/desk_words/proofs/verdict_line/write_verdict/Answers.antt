use Rattle.std.proofs.Common.{inr, refl}
use Rattle.desk_words.proofs.verdict_line.write_verdict.Goals as goal

pub returns-in_default-clause-tells : goal.returns-in_default-clause-tells
returns-in_default-clause-tells g c = inr (c.say_end.ensures.status, refl, c.say_end.ensures.said)
