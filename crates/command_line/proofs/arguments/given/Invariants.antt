use Rattle.std.proofs.Common.{◌≡◌, ◌+◌, ◌≤◌, length}
use Rattle.day_terms.specs.Arguments.{words_of}
use Rattle.command_line.specs.Given.{given_with, nothing_given}
use Rattle.command_line.proofs.arguments.given.Given as goal

-- what all arguments give is what those that are left give after those so far
abbrev pub invariant-loop-argument : goal.invariant-loop-argument
invariant-loop-argument l = record {
  same : given_with l.word nothing_given 0 (words_of l.fn.bytes) ≡ given_with l.word l.given l.place (words_of l.rest);
  short : l.place + length l.rest ≤ length l.fn.bytes;
}

abbrev pub decreases-loop-argument : goal.decreases-loop-argument
decreases-loop-argument l = length l.rest
