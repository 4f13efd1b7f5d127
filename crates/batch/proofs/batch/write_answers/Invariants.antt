use Rattle.std.proofs.Common.{◌≤◌, length, take}
use Rattle.std.specs.List.{flat_map}
use Rattle.batch.specs.Batch.{answer_line}
use Rattle.batch.specs.declared.answer_buffer.TheConstants.{PIECE}
use Rattle.whole_io.specs.Writing.{WritesUpTo}
use Rattle.batch.proofs.batch.write_answers.Given as goal

-- the text of the answers so far was written up to what is gathered
abbrev pub invariant-loop-answer : goal.invariant-loop-answer
invariant-loop-answer g l = record {
  room : length l.buffer ≤ PIECE;
  so_far : WritesUpTo (flat_map answer_line (take l.answer-index l.answers)) l.buffer (g.W.Write.contents l.fn.writer) (g.W.Write.contents l.writer);
}
