use Rattle.std.proofs.Common.{rules}
use Rattle.recorded_tapes.proofs.LineLemmas.{lines-at, lines-none}
use Rattle.recorded_tapes.proofs.lines.split_lines.Goals as goal

pub returns-in-Some : goal.returns-in-Some
returns-in-Some c =
    lines-at c.args.text.now _ _ c.in-Some.place (search rules) (search rules) (search rules) c.front.ensures c.rest.ensures

pub returns-in-None : goal.returns-in-None
returns-in-None c = lines-none c.args.text.now _ (search rules) c.front-in-None.ensures
