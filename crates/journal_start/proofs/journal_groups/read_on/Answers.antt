use Rattle.std.proofs.Common.{◌≡◌, ◌∙◌, ◌++◌, ◌∷◌, [], ap, map}
use Rattle.day_journal.specs.Journals.{IsRead}
use Rattle.journal_start.specs.PastLines.{with_entries}
use Rattle.journal_start.specs.declared.past_line.PastLine.{PastLine}
use Rattle.journal_start.proofs.GroupLemmas.{lines_more, lines_none, reads_more, reads_none}
use Rattle.journal_start.proofs.journal_groups.read_on.Goals as goal

-- no group was read yet
pub loop-init : goal.loop-init
loop-init c = ([], reads_none c.args.reader.now, lines_none c.args.lines.now.items)

-- one more group
pub loop-preserved : goal.loop-preserved
loop-preserved c =
    let groups = c.loop.invariant.0 in
    let start = c.args.lines.now.items in
    let es = c.next_group.new.entries.items in
    let read : IsRead c.loop.reader es c.next_group.new.self = rw c.in-Group.is at c.in_ok-next_group.ensures.ok in
    let lines : c.in_ok-lines-in-Group.field-0.items ≡ map (λ (line : PastLine). with_entries line es) c.loop.lines.items =
    rw (c.deref.ensures.value, c.deref-in-Group.ensures.value) at c.in_ok-lines-in-Group.ensures in (
      groups ++ es ∷ [],
      reads_more groups c.args.reader.now c.loop.reader c.next_group.new.self es c.loop.invariant.1 read,
      lines ∙ ap (map (λ (line : PastLine). with_entries line es)) c.loop.invariant.2 ∙ lines_more start groups es,
    )
