use Rattle.std.proofs.KnownBytes.{Appends-kept}
use Rattle.whole_io.specs.Lemmas.WriteLemmas.{WritesPrefix-kept, WritesPrefix-whole}
use Rattle.message_texts.proofs.decode.write_flushed.Goals as goal

pub returns-in_err-flush-clause-prefix : goal.returns-in_err-flush-clause-prefix
returns-in_err-flush-clause-prefix g c =
    WritesPrefix-kept _ _ _ _ (WritesPrefix-whole _ _ _ c.in_ok-write_table.ensures.written) c.flush.ensures.kept

pub returns-clause-written : goal.returns-clause-written
returns-clause-written g c = Appends-kept _ _ _ _ c.in_ok-write_table.ensures.written c.flush.ensures.kept

pub returns-clause-prefix : goal.returns-clause-prefix
returns-clause-prefix g c =
    WritesPrefix-kept _ _ _ _ (WritesPrefix-whole _ _ _ c.in_ok-write_table.ensures.written) c.flush.ensures.kept
