use Rattle.batch.proofs.LineLemmas.{ends_a_line-at}
use Rattle.batch.proofs.lines.whole_lines.Goals as goal

pub returns-in-Some-clause-whole : goal.returns-in-Some-clause-whole
returns-in-Some-clause-whole c = ends_a_line-at c.args.text.now c.in-Some.end c.in-Some.ensures
