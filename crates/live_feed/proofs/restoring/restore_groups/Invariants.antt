use Rattle.std.proofs.Common.{◌≡◌}
use Rattle.line_ledger.specs.Cells.{shown}
use Rattle.line_ledger.specs.Ends.{whos}
use Rattle.live_feed.specs.Restorings.{IsRestored}
use Rattle.live_feed.proofs.restoring.restore_groups.Given as goal

-- the groups so far are restored
abbrev pub invariant-loop : goal.invariant-loop
invariant-loop g l =
    (whos l.seats.items ≡ whos l.fn.seats.items) × (l.published.names ≡ l.fn.published.names)
    × IsRestored l.fn.reader l.fn.seats.items (shown l.fn.published.tokens) l.reader l.seats.items (shown l.published.tokens)
