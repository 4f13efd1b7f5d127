use Rattle.std.proofs.Common.{◌≡◌, take}
use Rattle.line_ledger.specs.Ends.{whos}
use Rattle.live_feed.specs.Restorings.{TellsEntries}
use Rattle.live_feed.proofs.restoring.admit_entries.Given as goal

-- the entries so far were told, and the seats are of the same participants
abbrev pub invariant-loop-entry : goal.invariant-loop-entry
invariant-loop-entry g l = (whos l.seats.items ≡ whos l.fn.seats.items) × TellsEntries l.fn.seats.items (take l.entry-index l.entries) l.seats.items
