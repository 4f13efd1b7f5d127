use Rattle.std.proofs.Common.{◌≡◌}
use Rattle.test_lines.proofs.tests.readers.read_all.Given as goal

abbrev pub invariant-loop : goal.invariant-loop
invariant-loop g l = l.published.names ≡ l.fn.shared
