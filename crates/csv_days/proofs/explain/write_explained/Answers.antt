use Rattle.std.proofs.Common.{List, ℕ, subst}
use Rattle.std.proofs.KnownBytes.{Appends-kept}
use Rattle.std.specs.Io.KnownBytes.{Appends}
use Rattle.whole_io.specs.Lemmas.WriteLemmas.{WritesPrefix-kept, WritesPrefix-whole}
use Rattle.tape_core.specs.Tape.{TapeState}
use Rattle.csv_days.specs.Days.{tape_of}
use Rattle.csv_days.specs.Explained.{explain_text, explained_rows, explained_text}
use Rattle.csv_days.proofs.EndLemmas.{any_ok}
use Rattle.csv_days.proofs.TapeLemmas.{nothing_written}
use Rattle.csv_days.proofs.explain.write_explained.Goals as goal

pub returns-in_err-account-clause-prefix : goal.returns-in_err-account-clause-prefix
returns-in_err-account-clause-prefix g c = λ _. nothing_written (explain_text c.args.matrix c.args.messages.now) (g.W.Write.contents c.args.writer.now)

pub returns-in_err-head-clause-prefix : goal.returns-in_err-head-clause-prefix
returns-in_err-head-clause-prefix g c = λ _. nothing_written (explain_text c.args.matrix c.args.messages.now) (g.W.Write.contents c.args.writer.now)

pub returns-clause-written : goal.returns-clause-written
returns-clause-written g c =
    let old = g.W.Write.contents c.args.writer.now in
    let mid = g.W.Write.contents c.write_rows.new.writer in
    let matrix = c.args.matrix in
    let messages = c.args.messages.now in
    any_ok c.flushed.result _
    (Appends-kept old mid (g.W.Write.contents c.flushed.new.writer) (explain_text matrix messages)
    (subst (λ (l : List ℕ). Appends old mid (explained_text (explained_rows (tape_of matrix messages) l))) c.in_ok-account.ensures.rows
    (subst (λ (t : TapeState). Appends old mid (explained_text (explained_rows t c.in_ok-account.account.rows.items))) c.in_ok-account.ensures.day.tape
    c.in_ok-write_rows.ensures.written))
    c.flushed.ensures.kept)

pub returns-clause-prefix : goal.returns-clause-prefix
returns-clause-prefix g c = λ _.
    let old = g.W.Write.contents c.args.writer.now in
    let mid = g.W.Write.contents c.write_rows.new.writer in
    let matrix = c.args.matrix in
    let messages = c.args.messages.now in
    WritesPrefix-kept (explain_text matrix messages) old mid (g.W.Write.contents c.flushed.new.writer)
    (WritesPrefix-whole (explain_text matrix messages) old mid
    (subst (λ (l : List ℕ). Appends old mid (explained_text (explained_rows (tape_of matrix messages) l))) c.in_ok-account.ensures.rows
    (subst (λ (t : TapeState). Appends old mid (explained_text (explained_rows t c.in_ok-account.account.rows.items))) c.in_ok-account.ensures.day.tape
    c.in_ok-write_rows.ensures.written)))
    c.flushed.ensures.kept
