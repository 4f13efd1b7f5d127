use Rattle.std.proofs.Common.{◌∙◌, ◌∷◌, ◌++◌, [], ℕ, Option, Result, Err, ap, subst, sym}
use Rattle.tape_core.specs.declared.refusal.Refusal.{Refusal}
use Rattle.csv_days.specs.Refusals.{AreRefusals}
use Rattle.csv_days.specs.StaleRows.{stale_after, stale_row}
use Rattle.csv_days.specs.declared.stale_row.StaleRow.{StaleRow}
use Rattle.csv_days.proofs.RefusalLemmas.{AreReasons-admitted, AreReasons-kept, rows-more}
use Rattle.csv_days.proofs.StaleLemmas.{stale_after-admitted}
use Rattle.csv_days.proofs.refusals.Refusals.count.Goals as goal

pub returns-in-Ok-clause-counts : goal.returns-in-Ok-clause-counts
returns-in-Ok-clause-counts c = λ answers row had. subst (λ (a : Result ℕ Refusal). AreRefusals (answers ++ a ∷ []) c.count_row.new.self) (sym c.in-Ok.is)
    (record {
      rows = rows-more c.args.self.now.rows c.count_row.new.self.rows c.args.row answers _ c.count_row.ensures.rows c.ranges.row.fits row had.rows;
      reasons = AreReasons-admitted c.count_row.new.self answers _
          (AreReasons-kept c.args.self.now c.count_row.new.self answers c.count_row.ensures.reasons had.reasons);
    })

pub returns-in-Ok-clause-stale : goal.returns-in-Ok-clause-stale
returns-in-Ok-clause-stale c =
    let row = stale_row c.args.message.now c.args.greatest in
    c.count_row.ensures.stale ∙ sym (ap (λ (a : Result ℕ Refusal). stale_after c.args.self.now.stale a row) c.in-Ok.is ∙ stale_after-admitted c.args.self.now.stale _ row)

pub returns-in-Err-clause-counts : goal.returns-in-Err-clause-counts
returns-in-Err-clause-counts c = λ answers row had. subst (λ (a : Result ℕ Refusal). AreRefusals (answers ++ a ∷ []) c.add.new.self) (sym c.in-Err.is)
    (record {
      rows = c.add.ensures.rows ∙ c.note_stale.ensures.rows
          ∙ rows-more c.args.self.now.rows c.count_row.new.self.rows c.args.row answers _ c.count_row.ensures.rows c.ranges.row.fits row had.rows;
      reasons = c.add.ensures.counts answers row
          (AreReasons-kept c.args.self.now c.note_stale.new.self answers (c.note_stale.ensures.reasons ∙ c.count_row.ensures.reasons) had.reasons);
    })

pub returns-in-Err-clause-stale : goal.returns-in-Err-clause-stale
returns-in-Err-clause-stale c =
    let row = stale_row c.args.message.now c.args.greatest in
    c.add.ensures.stale ∙ c.note_stale.ensures.stale ∙ ap (λ (o : Option StaleRow). stale_after o (Err c.in-Err.refusal) row) c.count_row.ensures.stale
    ∙ sym (ap (λ (a : Result ℕ Refusal). stale_after c.args.self.now.stale a row) c.in-Err.is)
