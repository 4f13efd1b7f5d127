use Rattle.whole_io.specs.Writing.{WritesUpTo}
use Rattle.whole_io.proofs.writing.write_text.Given as goal

abbrev pub invariant-loop : goal.invariant-loop
invariant-loop g l = WritesUpTo l.fn.text l.rest (g.W.Write.contents l.fn.writer) (g.W.Write.contents l.writer)
