use Rattle.std.proofs.Common.{◌∙◌, refl, rules}
use Rattle.live_feed.proofs.RestoredGroups.{none_told, tells_one_more}
use Rattle.live_feed.proofs.restoring.admit_entries.Goals as goal

pub loop-entry-init : goal.loop-entry-init
loop-entry-init g c = (refl, none_told c.args.seats.now.items)

-- one entry more was told
pub loop-entry-preserved : goal.loop-entry-preserved
loop-entry-preserved g c =
    let so_far = c.loop-entry.invariant in (
      c.admit_entry.ensures.whos ∙ so_far.0,
      tells_one_more c.args.entries.now c.loop-entry.entry-index c.entry-item.result c.args.seats.now.items c.loop-entry.seats.items
          c.admit_entry.new.seats.items c.loop-entry-test.true c.entry-item.is so_far.1 (search rules),
    )
