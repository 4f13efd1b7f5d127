use Rattle.std.proofs.Common.{List, OnOk, subst, sym, ℕ}
use Rattle.std.specs.Io.KnownBytes.{Appends}
use Rattle.csv.proofs.WriteFacts.{appends-none}
use Rattle.whole_io.specs.Writing.{WritesPrefix}
use Rattle.tape_core.specs.Answers.{answers}
use Rattle.csv_days.specs.Days.{first_tape}
use Rattle.csv_days.specs.DayTexts.{text_named}
use Rattle.csv_days.specs.Refusals.{RefusesNone}
use Rattle.csv_days.proofs.StrictLemmas.{none_by, strictly-all, strictly-some, told_by}
use Rattle.csv_days.proofs.TapeLemmas.{nothing_written}
use Rattle.csv_days.proofs.strict.write_if_admitted.Goals as goal

pub returns-in_err-told-clause-prefix : goal.returns-in_err-told-clause-prefix
returns-in_err-told-clause-prefix g c = λ _. nothing_written _ (g.W.Write.contents c.args.writer.now)

pub returns-then-is_empty-clause-told : goal.returns-then-is_empty-clause-told
returns-then-is_empty-clause-told g c =
    told_by c.args.matrix c.args.messages.now c.write_day_text.result c.in_ok-told.ensures.told.listed c.write_day_text.ensures.refused c.write_day_text.ensures.stale

pub returns-then-is_empty-clause-written : goal.returns-then-is_empty-clause-written
returns-then-is_empty-clause-written g c =
    subst (λ (l : List ℕ). OnOk c.write_day_text.result (Appends (g.W.Write.contents c.args.writer.now) (g.W.Write.contents c.write_day_text.new.writer) l))
    (sym (strictly-all (text_named c.args.text) c.args.matrix c.args.messages.now c.in_ok-told.told c.in_ok-told.ensures.told.refused (c.is_empty.ensures.empty.0 c.if-is_empty.true)))
    c.write_day_text.ensures.written

pub returns-then-is_empty-clause-unwritten : goal.returns-then-is_empty-clause-unwritten
returns-then-is_empty-clause-unwritten g c =
    none_by (answers (first_tape c.args.matrix c.args.messages.now) c.args.messages.now) c.in_ok-told.told c.write_day_text.result _ c.in_ok-told.ensures.told.refused
    (c.is_empty.ensures.empty.0 c.if-is_empty.true) c.write_day_text.ensures.refused

pub returns-then-is_empty-clause-prefix : goal.returns-then-is_empty-clause-prefix
returns-then-is_empty-clause-prefix g c = λ ended.
    subst (λ (l : List ℕ). WritesPrefix l (g.W.Write.contents c.args.writer.now) (g.W.Write.contents c.write_day_text.new.writer))
    (sym (strictly-all (text_named c.args.text) c.args.matrix c.args.messages.now c.in_ok-told.told c.in_ok-told.ensures.told.refused (c.is_empty.ensures.empty.0 c.if-is_empty.true)))
    (c.write_day_text.ensures.prefix ended)

pub returns-else-is_empty-clause-written : goal.returns-else-is_empty-clause-written
returns-else-is_empty-clause-written g c =
    let some : RefusesNone c.in_ok-told.told → ⊥ = λ none. absurd (cc (c.is_empty.ensures.empty.1 none, c.if-is_empty.false)) in
    subst (Appends (g.W.Write.contents c.args.writer.now) (g.W.Write.contents c.args.writer.now))
    (sym (strictly-some (text_named c.args.text) c.args.matrix c.args.messages.now c.in_ok-told.told c.in_ok-told.ensures.told.refused some))
    (appends-none (g.W.Write.contents c.args.writer.now))
