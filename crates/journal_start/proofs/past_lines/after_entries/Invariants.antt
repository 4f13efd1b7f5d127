use Rattle.std.proofs.Common.{◌≡◌, map, take}
use Rattle.journal_start.specs.PastLines.{with_entries}
use Rattle.journal_start.proofs.past_lines.after_entries.Given as goal

-- the lines so far, after the entries
abbrev pub invariant-loop-line : goal.invariant-loop-line
invariant-loop-line l = l.after.items ≡ map (λ line. with_entries line l.fn.entries) (take l.line-index l.lines)
