use Rattle.std.proofs.Common.{◌-◌, arith, drop, length-drop, length-take, length}
use Rattle.tape_core.specs.declared.entry.Entry.{Entry}
use Rattle.live_feed.specs.declared.keeper.TheConstants.{GATHERED_AT_ONCE}
use Rattle.live_feed.proofs.Following.{next_taken}
use Rattle.live_feed.proofs.keeper.next_of.Goals as goal

pub returns : goal.returns
returns c =
    let es = c.args.entries.now in
    let from = c.min-from.result in
    next_taken es c.args.held from GATHERED_AT_ONCE c.min.result (omega (arith, c.min-from.ensures))
    (omega (arith, c.min-from.ensures, c.min.ensures, length-take {A = Entry} (length es - from) (drop from es), length-drop {A = Entry} from es))
