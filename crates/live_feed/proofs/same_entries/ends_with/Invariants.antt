use Rattle.std.proofs.Common.{◌≡◌, ◌+◌, ◌<◌, ℕ, get_or}
use Rattle.tape_core.specs.declared.entry.Entry.{Entry}
use Rattle.live_feed.proofs.same_entries.ends_with.Given as goal

-- the first so many are found
abbrev pub invariant-loop-at : goal.invariant-loop-at
invariant-loop-at g l = (i : ℕ) (d : Entry) → i < l.at → get_or (g.S.Source.list l.source) (l.before + i) d ≡ get_or l.entries i d
