use Rattle.std.proofs.Common.{length}
use Rattle.csv_days.proofs.TapeLemmas.{WrittenSome}
use Rattle.csv_days.proofs.tape.write_rows.Given as goal

-- the text of the messages before the rest is written up to what is gathered
abbrev pub invariant-loop-rest : goal.invariant-loop-rest
invariant-loop-rest g l = WrittenSome l.fn.day.tape l.day l.messages l.rest l.text.items (g.W.Write.contents l.fn.writer) (g.W.Write.contents l.writer)

abbrev pub decreases-loop-rest : goal.decreases-loop-rest
decreases-loop-rest g l = length l.rest
