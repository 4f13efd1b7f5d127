use Rattle.std.proofs.Common.{◌≡◌, ◌∙◌, ◌==◌, ap, length, refl, rules, subst, true}
use Rattle.std.specs.Io.KnownBytes.{Appends}
use Rattle.std.specs.Prelude.{List, ℕ}
use Rattle.whole_io.specs.Lemmas.WriteLemmas.{WritesPrefix-kept, WritesPrefix-whole}
use Rattle.whole_io.specs.Writing.{WritesPrefix}
use Rattle.csv_days.specs.Explained.{explain_text}
use Rattle.journal_days.specs.Texts.{messages_in}
use Rattle.journal_days.proofs.TextLemmas.{explained_head_of_none, nothing_written, on_err, text_failed, written_kept}
use Rattle.journal_days.proofs.explain.write_journal_explained.Goals as goal

pub returns-in_err-write_explained_head-clause-prefix : goal.returns-in_err-write_explained_head-clause-prefix
returns-in_err-write_explained_head-clause-prefix g c =
    let none : (length c.args.day.now.tape.entries == 0) ≡ true = search rules in
    on_err _ _
    (subst (λ (text : List ℕ). WritesPrefix text (g.W.Write.contents c.args.writer.now) (g.W.Write.contents c.write_explained_head.new.writer))
    (explained_head_of_none c.args.day.now.tape.matrix c.args.day.now.tape.entries none) c.in_err-write_explained_head.ensures.prefix)

pub returns-then-is_empty-clause-written : goal.returns-then-is_empty-clause-written
returns-then-is_empty-clause-written g c =
    let none : (length c.args.day.now.tape.entries == 0) ≡ true = search rules in
    subst (λ (text : List ℕ). Appends (g.W.Write.contents c.args.writer.now) (g.W.Write.contents c.flush.new.writer) text)
    (explained_head_of_none c.args.day.now.tape.matrix c.args.day.now.tape.entries none)
    (written_kept _ _ _ _ c.in_ok-write_explained_head.ensures.written c.flush.ensures.kept)

pub returns-in_err-flush-clause-prefix : goal.returns-in_err-flush-clause-prefix
returns-in_err-flush-clause-prefix g c =
    let none : (length c.args.day.now.tape.entries == 0) ≡ true = search rules in
    on_err _ _
    (subst (λ (text : List ℕ). WritesPrefix text (g.W.Write.contents c.args.writer.now) (g.W.Write.contents c.flush.new.writer))
    (explained_head_of_none c.args.day.now.tape.matrix c.args.day.now.tape.entries none)
    (WritesPrefix-kept _ _ _ _ (WritesPrefix-whole _ _ _ c.in_ok-write_explained_head.ensures.written) c.flush.ensures.kept))

pub returns-in_err-messages-clause-prefix : goal.returns-in_err-messages-clause-prefix
returns-in_err-messages-clause-prefix g c = on_err _ _ (nothing_written _ _ _ refl)

pub returns-clause-prefix : goal.returns-clause-prefix
returns-clause-prefix g c =
    let t = c.args.day.now.tape in
    let m = c.matrix.ensures.value in
    let ms = c.deref.ensures.value ∙ c.in_ok-messages.ensures ∙ ap messages_in c.entries-entries.ensures.entries in
    let same : explain_text c.matrix.result c.deref.result.now ≡ explain_text t.matrix (messages_in t.entries) = λ i. explain_text (m i) (ms i) in
    text_failed g.W.Write.contents (explain_text t.matrix (messages_in t.entries)) c.args.writer.now c.write_explained.new.writer c.write_explained.result
    c.written.result c.written.ensures.ok.1 c.write_explained.ensures.silent
    (λ failed. subst (λ (text : List ℕ). WritesPrefix text (g.W.Write.contents c.args.writer.now) (g.W.Write.contents c.write_explained.new.writer)) same
    (c.write_explained.ensures.prefix failed))
