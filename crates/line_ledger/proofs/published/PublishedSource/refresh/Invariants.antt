use Rattle.std.proofs.Common.{◌≡◌, length}
use Rattle.line_ledger.specs.Publishing.{GoesOn}
use Rattle.line_ledger.proofs.published.PublishedSource.refresh.Given as goal

-- what was found before is kept
abbrev pub invariant-loop : goal.invariant-loop
invariant-loop g l = (l.self.names ≡ l.fn.self.names) × (l.before ≡ length l.fn.self.tokens) × GoesOn l.fn.self.tokens l.self.tokens
