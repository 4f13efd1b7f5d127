use Rattle.std.proofs.Common.{◌∙◌, refl, subst, sym}
use Rattle.day_journal.specs.Journals.{IsRead, Reads}
use Rattle.line_ledger.specs.Cells.{shown}
use Rattle.live_feed.proofs.RestoredGroups.{restored_more, restored_none}
use Rattle.live_feed.proofs.restoring.restore_groups.Goals as goal

pub loop-init : goal.loop-init
loop-init g c = (refl, refl, restored_none c.args.reader.now c.args.seats.now.items (shown c.args.published.now.tokens))

-- one group more is restored
pub loop-preserved : goal.loop-preserved
loop-preserved g c =
    let es = c.as_slice.result.now in
    let before = c.loop.reader in
    let after = c.next_group.new.self in
    let done = c.in_ok-restore_group-in-Ok-Group.ensures in
    let read : IsRead before es after =
    subst (λ l. IsRead before l after) (sym c.as_slice.ensures.value)
    (subst (λ n. Reads n before c.next_group.new.entries.items after) c.in-Ok-Group.field-0-is c.in-Ok-Group.ensures.ok) in (
      done.whos ∙ c.loop.invariant.0,
      done.cells ∙ c.loop.invariant.1,
      restored_more c.args.reader.now before after c.args.seats.now.items c.loop.seats.items c.restore_group.new.seats.items
          (shown c.args.published.now.tokens) (shown c.loop.published.tokens) (shown c.restore_group.new.published.tokens) es
          c.loop.invariant.2 read done.told done.entries,
    )
