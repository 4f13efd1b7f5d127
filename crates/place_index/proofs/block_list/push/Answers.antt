use Rattle.place_index.proofs.BlockOrder.{blocks-more}
use Rattle.place_index.proofs.block_list.push.Goals as goal

pub returns-clause-valid : goal.returns-clause-valid
returns-clause-valid g c =
    rw (c.in_ok-push.ensures.ok, c.in_ok-block.ensures) (blocks-more c.args.place c.args.blocks.now.items c.requires.valid c.args.value c.requires.above).0

pub returns-clause-ok : goal.returns-clause-ok
returns-clause-ok g c =
    rw (c.in_ok-push.ensures.ok, c.in_ok-block.ensures) (blocks-more c.args.place c.args.blocks.now.items c.requires.valid c.args.value c.requires.above).1
