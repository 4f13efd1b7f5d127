use Rattle.std.proofs.Common.{◌∙◌, Some, ap, sym}
use Rattle.std.specs.Prelude.{not}
use Rattle.reports.specs.declared.message.Header.{Header}
use Rattle.csv_days.specs.declared.stale_row.StaleRow.{StaleRow}
use Rattle.csv_days.proofs.StaleLemmas.{stale_after-other, stale_after-some, stale_after-stale}
use Rattle.csv_days.proofs.refusals.Refusals.note_stale.Goals as goal
use Rattle.csv_days.proofs.refusals.Refusals.note_stale.Goals.{else-is_stale-via-then-is_stale+else-is_none, else-is_stale-via-else-is_stale}

pub returns-then-is_none-clause-stale : goal.returns-then-is_none-clause-stale
returns-then-is_none-clause-stale c =
    let row : Header → StaleRow = λ h. record { participant = h.participant; number = h.number; greatest = c.args.greatest } in
    ap (λ (h : Header). Some (row h)) c.header-header.ensures.header
    ∙ sym (stale_after-stale c.args.self.now.stale c.args.refusal _ (sym c.is_stale.ensures ∙ c.if-is_stale.true)
    (c.is_none.ensures ∙ ap not c.if-is_none.true))

pub returns-else-is_stale-clause-stale : goal.returns-else-is_stale-clause-stale
returns-else-is_stale-clause-stale c = elim c.else-is_stale.branch [
  | else-is_stale-via-then-is_stale+else-is_none w ↦ sym (stale_after-some c.args.self.now.stale _ _ (w.is_none.ensures ∙ ap not w.if-is_none.false))
  | else-is_stale-via-else-is_stale w ↦ sym (stale_after-other c.args.self.now.stale c.args.refusal _ (sym c.is_stale.ensures ∙ w.if-is_stale.false))
]
