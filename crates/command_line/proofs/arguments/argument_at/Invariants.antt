use Rattle.std.proofs.Common.{◌≡◌, ◌+◌, [], ℕ, get_or}
use Rattle.day_terms.specs.Arguments.{words_of}
use Rattle.command_line.proofs.arguments.argument_at.Given as goal

-- the arguments that are left are those from the counter on
abbrev pub invariant-loop : goal.invariant-loop
invariant-loop l = (k : ℕ) → get_or (words_of l.rest) k [] ≡ get_or (words_of l.fn.bytes) (l.counter + k) []
