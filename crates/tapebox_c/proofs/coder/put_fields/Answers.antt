use Rattle.std.proofs.Common.{⊎_elim}
use Rattle.reports.specs.Lemmas.PutTexts.{Puts-as, Puts-then}
use Rattle.tapebox_c.proofs.FieldTexts.{report_text, correction_text, cancel_text, reinstatement_text}
use Rattle.tapebox_c.proofs.coder.put_fields.Goals as goal

pub returns-in-82-clause-puts : goal.returns-in-82-clause-puts
returns-in-82-clause-puts c =
    Puts-as (report_text c.args.fields.now c.in-82.is)
    (Puts-then c.put_start-at.ensures (Puts-then c.put_header-at.ensures c.put_content.ensures))

pub returns-in-67-clause-puts : goal.returns-in-67-clause-puts
returns-in-67-clause-puts c =
    Puts-as (correction_text c.args.fields.now c.in-67.is)
    (Puts-then c.put_start-at-in-67.ensures
    (Puts-then c.put_header-at-in-67.ensures
    (Puts-then (Puts-as c.to_be_bytes.ensures c.put-at.ensures.puts) c.put_content-in-67.ensures)))

pub returns-in-88-clause-puts : goal.returns-in-88-clause-puts
returns-in-88-clause-puts c =
    Puts-as (⊎_elim (reinstatement_text c.args.fields.now) (cancel_text c.args.fields.now) c.in-88.is)
    (Puts-then c.put_start-at-in-88.ensures
    (Puts-then c.put_header-at-in-88.ensures (Puts-as c.to_be_bytes-in-88.ensures c.put.ensures.puts)))
