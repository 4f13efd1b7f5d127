use Rattle.std.proofs.Common.{◌≡◌, ◌≤◌, length}
use Rattle.line_ledger.specs.Cells.{shown}
use Rattle.live_feed.specs.Journals.{AllKept, Grows, HasFailed}
use Rattle.live_feed.proofs.sender.send_to_end.Given as goal

-- the cells are the same, what was sent is published, and what is published is kept
abbrev pub invariant-loop : goal.invariant-loop
invariant-loop g l = record {
  names : l.published.names ≡ l.fn.published.names;
  sent : l.number ≤ length (shown l.published.tokens);
  behind : length (shown l.fn.published.tokens) ≤ l.number;
  kept : AllKept l.keeper (shown l.published.tokens);
  grows : Grows l.fn.keeper (shown l.fn.published.tokens) l.keeper (shown l.published.tokens);
  failed : HasFailed l.keeper → HasFailed l.fn.keeper;
}
