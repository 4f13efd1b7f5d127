use Rattle.std.specs.Prelude.{◌≡◌, ◌++◌, List, ℕ}
use Rattle.whole_io.specs.Lines.{HasNoLineFeed}
use Rattle.whole_io.proofs.lines.push_without_line_feeds.Given as goal

-- what was appended so far has no line feed
abbrev pub invariant-loop-byte : goal.invariant-loop-byte
invariant-loop-byte l = (words : List ℕ) × HasNoLineFeed words × (l.line.items ≡ l.initial.line.items ++ words)
