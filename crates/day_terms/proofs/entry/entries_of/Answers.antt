use Rattle.std.proofs.Common.{rules, ◌∙◌}
use Rattle.toml.specs.View.{view}
use Rattle.day_terms.proofs.Fronts.{with_front-nil}
use Rattle.day_terms.proofs.TableLemmas.{entries_at_list}
use Rattle.day_terms.proofs.entry.entries_of.Goals as goal

pub loop-item-init : goal.loop-item-init
loop-item-init g c =
    rw (c.new-entries.ensures.items, c.deref-item-items.ensures.value)
    (with_front-nil _ ∙ entries_at_list g.E.ListEntry.entry c.args.key (view c.args.value.now) c.in-Some.list.now.items c.in-Some.ensures (search rules))
