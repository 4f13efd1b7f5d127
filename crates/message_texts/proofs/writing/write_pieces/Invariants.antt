use Rattle.std.proofs.Common.{◌++◌, length}
use Rattle.std.specs.List.{flat_map}
use Rattle.whole_io.specs.Writing.{WritesUpTo}
use Rattle.message_texts.proofs.writing.write_pieces.Given as goal

-- the whole text is written up to what is made and the texts of the messages behind it
abbrev pub invariant-loop-rest : goal.invariant-loop-rest
invariant-loop-rest g l =
    WritesUpTo (l.fn.head.items ++ flat_map (g.F.Form.text l.form) l.messages) (l.text.items ++ flat_map (g.F.Form.text l.form) l.rest)
    (g.W.Write.contents l.fn.writer) (g.W.Write.contents l.writer)

abbrev pub decreases-loop-rest : goal.decreases-loop-rest
decreases-loop-rest g l = length l.rest
