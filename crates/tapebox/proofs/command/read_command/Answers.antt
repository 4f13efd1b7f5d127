use Rattle.std.proofs.Common.{rules}
use Rattle.tapebox.proofs.ArgumentLemmas.{to_the_last}
use Rattle.tapebox.proofs.command.read_command.Goals as goal

pub returns-in_ok-read-clause-asked : goal.returns-in_ok-read-clause-asked
returns-in_ok-read-clause-asked c =
    let named = rw (to_the_last 5 c.args.words.now) at c.in_ok-read.ensures.day in
    (search rules, named, c.in_ok-read.ensures.limit)

pub returns-in_ok-read-2-clause-asked : goal.returns-in_ok-read-2-clause-asked
returns-in_ok-read-2-clause-asked c =
    let named = rw (to_the_last 7 c.args.words.now) at c.in_ok-read-2.ensures.day in
    (search rules, named, c.in_ok-read-2.ensures.limit)
