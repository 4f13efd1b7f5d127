use Rattle.std.proofs.Common.{◌∙◌}
use Rattle.std.proofs.KnownBytes.{Appends-kept}
use Rattle.whole_io.specs.Lemmas.WriteLemmas.{WritesPrefix-kept, WritesPrefix-whole}
use Rattle.csv_days.proofs.CheckTextLemmas.{check-part, check-written}
use Rattle.csv_days.proofs.check.check_over.Goals as goal

pub returns-in_err-write_part-clause-prefix : goal.returns-in_err-write_part-clause-prefix
returns-in_err-write_part-clause-prefix g c = λ fault.
    check-part (g.R.Read.remaining c.args.reader) c.in_ok-check.check c.in_ok-names.names c.deref.result.now _ _ c.in_ok-check.ensures.check c.in_ok-names.ensures
    (c.deref.ensures.value ∙ c.in_ok-text.ensures) c.write_part.ensures.prefix

pub returns-clause-written : goal.returns-clause-written
returns-clause-written g c =
    let text = c.deref.result.now in
    check-written (g.R.Read.remaining c.args.reader) c.is_fine.result c.in_ok-check.check c.in_ok-names.names text _ _ c.in_ok-check.ensures.check c.in_ok-names.ensures
    (c.deref.ensures.value ∙ c.in_ok-text.ensures) c.is_fine.ensures
    (Appends-kept (g.W.Write.contents c.args.writer.now) (g.W.Write.contents c.write_part.new.writer) _ text c.in_ok-write_part.ensures.written c.flush.ensures.kept)

pub returns-in_err-flush-clause-prefix : goal.returns-in_err-flush-clause-prefix
returns-in_err-flush-clause-prefix g c = λ fault.
    let text = c.deref.result.now in
    let old = g.W.Write.contents c.args.writer.now in
    let mid = g.W.Write.contents c.write_part.new.writer in
    check-part (g.R.Read.remaining c.args.reader) c.in_ok-check.check c.in_ok-names.names text _ _ c.in_ok-check.ensures.check c.in_ok-names.ensures
    (c.deref.ensures.value ∙ c.in_ok-text.ensures)
    (WritesPrefix-kept text old mid _ (WritesPrefix-whole text old mid c.in_ok-write_part.ensures.written) c.flush.ensures.kept)
