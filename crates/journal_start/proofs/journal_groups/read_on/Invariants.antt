use Rattle.std.proofs.Common.{◌≡◌, List, map}
use Rattle.tape_core.specs.declared.entry.Entry.{Entry}
use Rattle.journal_start.specs.Groups.{ReadsGroups, entries_of}
use Rattle.journal_start.specs.PastLines.{with_entries}
use Rattle.journal_start.proofs.journal_groups.read_on.Given as goal

-- groups were read, and the lines came as far as their entries say
abbrev pub invariant-loop : goal.invariant-loop
invariant-loop l = (groups : List (List Entry)) × ReadsGroups groups l.fn.reader l.reader
    × (l.lines.items ≡ map (λ line. with_entries line (entries_of groups)) l.fn.lines.items)
